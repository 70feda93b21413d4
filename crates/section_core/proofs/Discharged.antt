-- What is kept, entry by entry.
use Rattle.std.proofs.Common.{◌≡◌, ℕ, ◌+◌, ◌≤◌, ◌<◌, Result, IfErr, List, [], ◌∷◌, ◌++◌, map, length, drop, get_or, refl, sym, ap, ap₂, subst, ◌∙◌, append_assoc}
use Rattle.std.proofs.lemmas.List.{append-nil}
use Rattle.std.proofs.lemmas.Result.{MatchResult-weaker}
use Rattle.cic_terms.proofs.Children.{drop_at, drop_whole}
use Rattle.cic_names.specs.declared.name.GlobalId.{GlobalId}
use Rattle.cic_rules.specs.Environment.{Declaration, axiom_of, transparent, opaque, inductive, ConstructorDeclaration, TypeDeclaration, declared_ids, constructor_ids, type_ids}
use Rattle.section_terms.specs.Hypotheses.{Hypothesis}
use Rattle.section_terms.specs.Discharge.{generalised, generalised_constructor, generalised_type_declaration}
use Rattle.section_core.specs.Sections.{Entry, assumed, added}
use Rattle.section_core.specs.Answers.{declarations_of, AllFit, IsFirstDeep}
use Rattle.section_core.specs.calls.Stored.{DeclaresStored, AllDeclare, with_own, made_of, arguments_after, kept_of, kept_stored, IsNotMade, AreNotMade}
use Rattle.cic_env.specs.Declarations.{declaration}
use Rattle.section_uses.specs.Kept.{hypothesis}
use Rattle.section_core.specs.declared.entry.Added.{Added}
use Rattle.section_core.specs.declared.entry.Entry.{Entry as Stored}
use Rattle.section_core.specs.declared.entry.Entry.TheVariants as stored
use Rattle.section_core.specs.declared.fault.LeaveFault.{LeaveFault}
use Rattle.section_core.specs.declared.fault.LeaveFault.TheVariants as not_left

pub declared_both : (xs ys : List Entry) → declarations_of (xs ++ ys) ≡ declarations_of xs ++ declarations_of ys
declared_both [] ys = refl
declared_both (assumed h ∷ xs) ys = declared_both xs ys
declared_both (added d u ∷ xs) ys = ap (λ (ds : List Declaration). d ∷ ds) (declared_both xs ys)

fit_both : (xs ys : List Declaration) → AllFit xs → AllFit ys → AllFit (xs ++ ys)
fit_both [] ys a b = b
fit_both (x ∷ xs) ys a b = (a.0, fit_both xs ys a.1 b)

-- A declaration that was generalised declares the same ids.
same_constructor_ids : (arguments : GlobalId → List GlobalId) (hs : List Hypothesis) (cs : List ConstructorDeclaration) →
    constructor_ids (map (generalised_constructor arguments hs) cs) ≡ constructor_ids cs
same_constructor_ids arguments hs [] = refl
same_constructor_ids arguments hs (c ∷ cs) = ap (λ (ids : List GlobalId). c.id ∷ ids) (same_constructor_ids arguments hs cs)

same_type_ids : (arguments : GlobalId → List GlobalId) (hs : List Hypothesis) (ts : List TypeDeclaration) →
    type_ids (map (generalised_type_declaration arguments hs) ts) ≡ type_ids ts
same_type_ids arguments hs [] = refl
same_type_ids arguments hs (t ∷ ts) =
    ap₂ (λ (cs us : List GlobalId). t.id ∷ (cs ++ us)) (same_constructor_ids arguments hs t.constructors) (same_type_ids arguments hs ts)

pub same_declared_ids : (arguments : GlobalId → List GlobalId) (hs : List Hypothesis) (d : Declaration) → declared_ids (generalised arguments hs d) ≡ declared_ids d
same_declared_ids arguments hs (axiom_of id type) = refl
same_declared_ids arguments hs (transparent id type body) = refl
same_declared_ids arguments hs (opaque id type body) = refl
same_declared_ids arguments hs (inductive block) = same_type_ids arguments hs block.types

-- The one declaration is the first that is too deep.
pub one_not_made : (old made : Declaration) (fault : LeaveFault) → declared_ids made ≡ declared_ids old → IsNotMade old made fault → AreNotMade (made ∷ []) fault
one_not_made old made (not_left.WrongEnd found inner) e p = p
one_not_made old made (not_left.Deep id) e p = record {
  before = [];
  deep = made;
  behind = [];
  are = refl;
  fit = tt;
  passes = p.0;
  declares = record { others = p.1.others; ids = e ∙ p.1.ids };
}
one_not_made old made not_left.NoMemory e p = tt

pub entry_not_made : (e : Stored) (a : Added) (arguments : GlobalId → List GlobalId) {A : Type 0} (r : Result A LeaveFault) → e ≡ stored.Added a →
    IfErr r (IsNotMade (declaration a.decl) (made_of a (with_own a arguments))) → IfErr r (AreNotMade (declarations_of (kept_of e arguments)))
entry_not_made e a arguments r is p =
    let same : declared_ids (made_of a (with_own a arguments)) ≡ declared_ids (declaration a.decl) =
    same_declared_ids (with_own a arguments) (map hypothesis a.uses.items) (declaration a.decl) in
    subst (λ (x : Stored). IfErr r (AreNotMade (declarations_of (kept_of x arguments)))) (sym is)
    (MatchResult-weaker r p (λ _ h. h) (λ fault h. one_not_made (declaration a.decl) (made_of a (with_own a arguments)) fault same h))

first_deep_after : (id : GlobalId) (xs ys zs : List Declaration) → AllFit xs → IsFirstDeep id ys → IsFirstDeep id (xs ++ (ys ++ zs))
first_deep_after id xs ys zs fits p = record {
  before = xs ++ p.before;
  deep = p.deep;
  behind = p.behind ++ zs;
  are =
      ap (λ (ds : List Declaration). xs ++ (ds ++ zs)) p.are
      ∙ ap (λ (ds : List Declaration). xs ++ ds) (append_assoc p.before (p.deep ∷ p.behind) zs)
      ∙ sym (append_assoc xs p.before (p.deep ∷ (p.behind ++ zs)));
  fit = fit_both xs p.before fits p.fit;
  passes = p.passes;
  declares = p.declares;
}

not_made_after : (xs ys zs : List Declaration) (fault : LeaveFault) → AllFit xs → AreNotMade ys fault → AreNotMade (xs ++ (ys ++ zs)) fault
not_made_after xs ys zs (not_left.WrongEnd found inner) fits p = p
not_made_after xs ys zs (not_left.Deep id) fits p = first_deep_after id xs ys zs fits p
not_made_after xs ys zs not_left.NoMemory fits p = tt

abbrev no_arguments : GlobalId → List GlobalId
no_arguments c = []

-- What was kept of the entries before a place
pub record IsKeptSoFar (entries : List Stored) (i : ℕ) (all : List Entry) (arguments : GlobalId → List GlobalId) : Type 0 where
  pub rest : all ++ kept_stored arguments (drop i entries) ≡ kept_stored no_arguments entries
  pub fit : AllFit (declarations_of all)
  pub declare : AllDeclare (drop i entries)

pub kept_none : (entries : List Stored) (all : List Entry) (arguments : GlobalId → List GlobalId) → AllDeclare entries → all ≡ [] → arguments ≡ no_arguments → IsKeptSoFar entries 0 all arguments
kept_none entries all arguments declare e f =
    rw (e, f) (record { rest = refl; fit = tt; declare = declare })

module _ (entries : List Stored) (i : ℕ) (e : Stored) (lt : i < length entries) (at : e ≡ get_or entries i e) (all : List Entry) (arguments : GlobalId → List GlobalId) (so_far : IsKeptSoFar entries i all arguments) where
  next : AllDeclare (e ∷ drop (i + 1) entries)
  next = subst (λ (es : List Stored). AllDeclare es) (drop_at entries i e lt at) so_far.declare

  pub declares_next : DeclaresStored e
  declares_next = next.0

  whole : all ++ (kept_of e arguments ++ kept_stored (arguments_after e arguments) (drop (i + 1) entries)) ≡ kept_stored no_arguments entries
  whole = ap (λ (es : List Stored). all ++ kept_stored arguments es) (sym (drop_at entries i e lt at)) ∙ so_far.rest

  pub kept_more : (all' : List Entry) (arguments' : GlobalId → List GlobalId) → arguments' ≡ arguments_after e arguments → all' ≡ all ++ kept_of e arguments →
      AllFit (declarations_of (kept_of e arguments)) → IsKeptSoFar entries (i + 1) all' arguments'
  kept_more all' arguments' f g fits =
      let rest : List Entry = kept_stored (arguments_after e arguments) (drop (i + 1) entries) in
      record {
        rest =
            ap₂ (λ (es : List Entry) (h : GlobalId → List GlobalId). es ++ kept_stored h (drop (i + 1) entries)) g f
            ∙ append_assoc all (kept_of e arguments) rest ∙ whole;
        fit =
            subst AllFit (sym (ap declarations_of g ∙ declared_both all (kept_of e arguments)))
            (fit_both (declarations_of all) (declarations_of (kept_of e arguments)) so_far.fit fits);
        declare = next.1;
      }

  pub not_made_at : (fault : LeaveFault) → AreNotMade (declarations_of (kept_of e arguments)) fault → AreNotMade (declarations_of (kept_stored no_arguments entries)) fault
  not_made_at fault p =
      let rest : List Entry = kept_stored (arguments_after e arguments) (drop (i + 1) entries) in
      subst (λ (ds : List Declaration). AreNotMade ds fault)
      (ap (λ (ds : List Declaration). declarations_of all ++ ds) (sym (declared_both (kept_of e arguments) rest))
      ∙ sym (declared_both all (kept_of e arguments ++ rest)) ∙ ap declarations_of whole)
      (not_made_after (declarations_of all) (declarations_of (kept_of e arguments)) (declarations_of rest) fault so_far.fit p)

pub kept_all : (entries : List Stored) (i : ℕ) (all : List Entry) (arguments : GlobalId → List GlobalId) → length entries ≤ i → IsKeptSoFar entries i all arguments → all ≡ kept_stored no_arguments entries
kept_all entries i all arguments le so_far =
    sym (append-nil all) ∙ ap (λ (es : List Stored). all ++ kept_stored arguments es) (sym (drop_whole entries i le)) ∙ so_far.rest
