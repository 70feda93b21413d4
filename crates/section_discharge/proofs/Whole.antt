-- Terms under all binders, and declarations made of them.
use Rattle.std.proofs.Common.{◌≡◌, ℕ, ◌+◌, ◌≤◌, Bool, true, false, Result, Ok, Err, IfOk, OnErr, List, [], ◌∷◌, length, map, refl, sym, ap, ap₂, subst, ◌∙◌, arith}
use Rattle.std.specs.declared.alloc.Global.{Global}
use Rattle.std.proofs.Common.{Vec}
use Rattle.cic_names.specs.declared.name.GlobalId.{GlobalId}
use Rattle.cic_env.specs.Declarations.{declaration, constructor_declaration, type_declaration}
use Rattle.cic_env.specs.declared.declaration.Decl.{Decl}
use Rattle.cic_env.specs.declared.declaration.CtorDecl.{CtorDecl}
use Rattle.cic_env.specs.declared.declaration.IndType.{IndType}
use Rattle.cic_rules.specs.Environment as rules
use Rattle.cic_terms.specs.Tree.{Tree}
use Rattle.cic_terms.specs.Denotes.{tree}
use Rattle.cic_terms.specs.Sizes.{Fits}
use Rattle.cic_terms.specs.calls.Answer.{Makes}
use Rattle.cic_terms.specs.declared.term.Term.{Term}
use Rattle.cic_terms.specs.declared.term.TermFault.{TermFault}
use Rattle.cic_terms.specs.declared.term.TermFault.TheVariants.{Deep, NoMemory}
use Rattle.section_terms.specs.Names.{replace_names}
use Rattle.section_terms.specs.Hypotheses.{Hypothesis}
use Rattle.section_terms.specs.Discharge.{generalised, generalised_type, generalised_body, generalised_part, generalised_constructor, generalised_type_declaration}
use Rattle.section_terms.specs.calls.Standing.{Passed, Bound, under_binders, put}
use Rattle.section_terms.proofs.Discharging.{type_at_once, body_at_once, part_at_once}
use Rattle.section_uses.specs.Kept.{hypothesis, list_of}
use Rattle.section_uses.specs.declared.hypothesis.Hypothesis.{Hypothesis as Kept}
use Rattle.section_uses.specs.declared.lists.Lists.{Lists}
use Rattle.section_discharge.specs.Makes.{MakesDeclaration}
use Rattle.section_discharge.specs.declared.binders.Binding.{Binding}
use Rattle.section_discharge.specs.declared.binders.Binding.TheVariants.{Product, Abstraction}
use Rattle.section_discharge.specs.declared.binders.Binders.{Binders}
use Rattle.section_discharge.specs.calls.Tables.{becomes_of, arguments_of, state_of}
use Rattle.section_discharge.specs.calls.Binders.{bound, bind_with, FitsAt, IsReady, AreBinders, hypotheses_of, under_all}
use Rattle.section_discharge.specs.calls.Parts.{ConstructorFits, MakesConstructors, TypeFits, MakesTypes}
use Rattle.section_discharge.proofs.Bounds.{all_made, all_passed, fits_at, at_fits, fits_inside, under_fits}
use Rattle.section_discharge.proofs.Nexts.{put_made, part_fits, part_unfit}
use Rattle.section_discharge.proofs.Gathered.{Each, Gathered, gathered_all, constructors_each, each_constructors, types_each, each_types}

abbrev inside_of : Binders → Tree → Tree
inside_of b t = put (arguments_of b.table) (state_of b.table) 0 t

under_is : (b : Binders) (way : Binding) (t : Tree) → IsReady b →
    under_all way (arguments_of b.table) b.table.keeps (hypotheses_of b.table) t ≡ under_binders (bind_with way) (map bound b.bounds.items) (inside_of b t)
under_is b way t ready =
    ap₂ (λ (bs : List Bound) (e : Passed). under_binders (bind_with way) bs (put (arguments_of b.table) e 0 t))
    (sym (all_made b.table (map bound b.bounds.items) ready.made ready.whole)) (sym (all_passed b.table ready.whole))

pub over_refused : (b : Binders) (way : Binding) (old t : Tree) (room : ℕ) → IsReady b → room + b.table.binders ≡ 4000 → old ≡ t →
    ¬ Fits room (replace_names (becomes_of b.table) b.table.binders 0 old) → ¬ Fits 4000 (under_all way (arguments_of b.table) b.table.keeps (hypotheses_of b.table) t)
over_refused b way old t room ready e same never h =
    let whole = fits_at 4000 0 (under_binders (bind_with way) (map bound b.bounds.items) (inside_of b t)) (omega arith) (subst (Fits 4000) (under_is b way t ready) h) in
    let inner = fits_inside way 0 (map bound b.bounds.items) (inside_of b t) whole in
    let at : 0 + length (map bound b.bounds.items) ≡ b.table.binders = omega (arith, ready.made.binders) in
    part_unfit b.table room b.table.binders t ready.made.table e (λ f. never (subst (λ x. Fits room (replace_names (becomes_of b.table) b.table.binders 0 x)) (sym same) f)) (subst (λ n. FitsAt n (inside_of b t)) at inner)

over_fits : (b : Binders) (way : Binding) (old t : Tree) (room : ℕ) → IsReady b → room + b.table.binders ≡ 4000 → old ≡ t →
    Fits room (replace_names (becomes_of b.table) b.table.binders 0 old) → Fits 4000 (under_all way (arguments_of b.table) b.table.keeps (hypotheses_of b.table) t)
over_fits b way old t room ready e same fits =
    let inner = part_fits b.table room b.table.binders t ready.made.table e (subst (λ x. Fits room (replace_names (becomes_of b.table) b.table.binders 0 x)) same fits) in
    let at : b.table.binders ≡ 0 + length (map bound b.bounds.items) = omega (arith, ready.made.binders) in
    let whole = under_fits way 0 (map bound b.bounds.items) (inside_of b t) ready.made.fits (subst (λ n. FitsAt n (inside_of b t)) at inner) in
    subst (Fits 4000) (sym (under_is b way t ready)) (at_fits 4000 0 (under_binders (bind_with way) (map bound b.bounds.items) (inside_of b t)) (omega arith) whole)

not_deep : (e : TermFault) (r : Result Term TermFault) → r ≡ Err e → r ≡ Err NoMemory → e ≡ Deep → ⊥
not_deep e r g h k = cc

pub over_made : (b : Binders) (way : Binding) (old t inside whole : Tree) (room : ℕ) (result : Result Term TermFault) → IsReady b → room + b.table.binders ≡ 4000 → old ≡ t →
    inside ≡ replace_names (becomes_of b.table) b.table.binders 0 old → Fits room (replace_names (becomes_of b.table) b.table.binders 0 old) →
    whole ≡ under_binders (bind_with way) (map bound b.bounds.items) inside → IfOk result (λ r. tree r ≡ whole) → OnErr result (result ≡ Err NoMemory) →
    Makes 4000 (under_all way (arguments_of b.table) b.table.keeps (hypotheses_of b.table) t) result
over_made b way old t inside whole room (Ok r) ready e same i fits w ok err =
    let put_is : inside ≡ inside_of b t = i ∙ ap (replace_names (becomes_of b.table) b.table.binders 0) same ∙ put_made b.table t ready.made.table in
    record {
      ok = ok ∙ w ∙ ap (under_binders (bind_with way) (map bound b.bounds.items)) put_is ∙ sym (under_is b way t ready);
      fits = over_fits b way old t room ready e same fits;
      deep = tt;
    }
over_made b way old t inside whole room (Err fault) ready e same i fits w ok err =
    record { ok = tt; fits = tt; deep = λ d. absurd (not_deep fault (Err fault) refl err d) }

abbrev Args : Type 0
Args = GlobalId → List GlobalId

pub type_made : (args : Args) (keeps : Bool) (hs : List Hypothesis) (t : Tree) (r : Result Term TermFault) → keeps ≡ true → Makes 4000 (under_all Product args keeps hs t) r → Makes 4000 (generalised_type args hs t) r
type_made args keeps hs t r e h = subst (λ x. Makes 4000 x r) (ap (λ (k : Bool). under_all Product args k hs t) e ∙ sym (type_at_once args hs t)) h

pub body_made : (args : Args) (keeps : Bool) (hs : List Hypothesis) (t : Tree) (r : Result Term TermFault) → keeps ≡ true → Makes 4000 (under_all Abstraction args keeps hs t) r → Makes 4000 (generalised_body args hs t) r
body_made args keeps hs t r e h = subst (λ x. Makes 4000 x r) (ap (λ (k : Bool). under_all Abstraction args k hs t) e ∙ sym (body_at_once args hs t)) h

pub part_made : (args : Args) (keeps : Bool) (hs : List Hypothesis) (t : Tree) (r : Result Term TermFault) → keeps ≡ false → Makes 4000 (under_all Product args keeps hs t) r → Makes 4000 (generalised_part args hs t) r
part_made args keeps hs t r e h = subst (λ x. Makes 4000 x r) (ap (λ (k : Bool). under_all Product args k hs t) e ∙ sym (part_at_once args hs t)) h

-- Lists that are made
pub constructors_made : (gen : rules.ConstructorDeclaration → rules.ConstructorDeclaration) (all : List CtorDecl) (i : ℕ) (made : Vec CtorDecl Global) → length all ≤ i →
    Gathered constructor_declaration gen ConstructorFits all i made.items → MakesConstructors (map gen (map constructor_declaration all)) (Ok made)
constructors_made gen all i made le h =
    let e = gathered_all constructor_declaration gen ConstructorFits all i made.items le h in
    record { ok = e; fits = each_constructors _ (subst (Each ConstructorFits) e h.fit); deep = tt }

pub types_made : (gen : rules.TypeDeclaration → rules.TypeDeclaration) (all : List IndType) (i : ℕ) (made : Vec IndType Global) → length all ≤ i →
    Gathered type_declaration gen TypeFits all i made.items → MakesTypes (map gen (map type_declaration all)) (Ok made)
types_made gen all i made le h =
    let e = gathered_all type_declaration gen TypeFits all i made.items le h in
    record { ok = e; fits = each_types _ (subst (Each TypeFits) e h.fit); deep = tt }

-- What is made over the hypotheses of the binders is made over those that they are of.
pub declaration_carried : (b : Binders) (hs : List Kept) (lists : Lists) (keep : Bool) (d : rules.Declaration) (r : Result Decl TermFault) → AreBinders hs lists keep b →
    MakesDeclaration (generalised (arguments_of b.table) (hypotheses_of b.table) d) r → MakesDeclaration (generalised (list_of lists) (map hypothesis hs) d) r
declaration_carried b hs lists keep d r are h =
    subst (λ x. MakesDeclaration x r) (ap₂ (λ (ls : Lists) (xs : List Kept). generalised (list_of ls) (map hypothesis xs) d) are.arguments are.all) h

pub types_carried : (b : Binders) (hs : List Kept) (lists : Lists) (keep : Bool) (ts : List rules.TypeDeclaration) (r : Result (Vec IndType Global) TermFault) → AreBinders hs lists keep b →
    MakesTypes (map (generalised_type_declaration (arguments_of b.table) (hypotheses_of b.table)) ts) r → MakesTypes (map (generalised_type_declaration (list_of lists) (map hypothesis hs)) ts) r
types_carried b hs lists keep ts r are h =
    subst (λ x. MakesTypes x r) (ap₂ (λ (ls : Lists) (xs : List Kept). map (generalised_type_declaration (list_of ls) (map hypothesis xs)) ts) are.arguments are.all) h
