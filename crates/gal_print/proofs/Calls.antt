-- What the calls that print one form put in front, as the texts are defined.
use Rattle.std.proofs.Common.{◌≡◌, ℕ, zero, suc, ◌+◌, ◌-◌, ◌<◌, ◌≤◌, List, [], ◌∷◌, ◌++◌, length, get_or, set, take, Bool, true, false, ◌||◌, eqb, codes, decimal, refl, sym, ap, ◌∙◌, arith, subst, replicate, ne_eqb, eq-eqb, inl, inr, ◌⊎◌, ap₂, add-zero}
use Rattle.std.proofs.lemmas.List.{get_or_read, length-set, get_or-set_same, get_or-set_other}
use Rattle.std.proofs.lemmas.Bool.{cases_eq}
use Rattle.cic_names.specs.declared.name.GlobalId.{GlobalId}
use Rattle.cic_names.specs.Texts.{id_text}
use Rattle.cic_terms.specs.Tree.{Tree, TreeSort, Shape, Children, sort, const, ind, ctor}
use Rattle.cic_terms.specs.Denotes.{tree, terms, branch_list, term_list, body_list, body_parts, shape_list, domain_count}
use Rattle.cic_terms.specs.declared.term.Term.{Term, Const, Ind, Ctor}
use Rattle.cic_terms.specs.declared.term.Terms.{Terms}
use Rattle.cic_terms.specs.declared.term.FixBody.{FixBody}
use Rattle.cic_terms.specs.declared.term.Branch.{Branch}
use Rattle.cic_rules.specs.Environment.{Environment}
use Rattle.gal_print.specs.Heads as known
use Rattle.gal_print.specs.Sorts.{sort_text}
use Rattle.gal_print.specs.Printing as P
use Rattle.gal_print.specs.Printing.{text, parts, under, is_used, name_text, names_text, parameters_text, variable_text, branches_text, domains_text, functions_text, in_place}
use Rattle.gal_print.specs.calls.Names.{at, uses, uses_under, variable, variable_as_text}
use Rattle.gal_print.specs.calls.Output.{Puts, Prints, PrintsBelow, Marked, in_front}
use Rattle.gal_print.specs.calls.Places.{known_heads, parts_uses, all_branches_text, result_of, struct_text, function_of}
use Rattle.gal_print.specs.declared.output.Output.{Output}
use Rattle.gal_print.specs.declared.names.Variable.{Variable}
use Rattle.gal_print.specs.declared.names.Variable.TheVariants.{Bound, Free}
use Rattle.gal_print.proofs.Numbers.{Descends, at_none, at_cong, at_variable, is_number, variable_below, IsBelow}
use Rattle.gal_print.proofs.Used.{first_flag, marked_as}
use Rattle.gal_print.proofs.Fronts.{prints_under, prints_as, only_puts}
use Rattle.gal_print.proofs.Arms.{prints_tree, pattern_text}
use Rattle.gal_print.proofs.Parts.{count_branches, count_terms, count_shapes}
use Rattle.gal_print.proofs.Fixes.{result_arm, function_arm}
use Rattle.gal_print.proofs.Loops.{branches_from, domains_from, functions_from}

-- The names and the next number, as a call is given them.
pub named_as : (E : Environment) (T : Tree) (ns ms : List ℕ) (n m : ℕ) (old new : Output) → ns ≡ ms → n ≡ m →
    Prints (text E T ns n) (uses ns T) old new → Prints (text E T ms m) (uses ms T) old new
named_as E T ns ms n m old new e f h =
    subst (λ (k : ℕ). Prints (text E T ms k) (uses ms T) old new) f
    (subst (λ (xs : List ℕ). Prints (text E T xs n) (uses xs T) old new) e h)

-- A term under binders that are opened and closed.
pub under_done : (E : Environment) (T : Tree) (ns inner : List ℕ) (next after count first : ℕ) (old opened printed new : Output) →
    length old.used.items ≡ next → first ≡ next → inner ≡ under next count ns → after ≡ next + count →
    in_front opened ≡ in_front old → opened.used.items ≡ old.used.items ++ replicate count false →
    Prints (text E T inner after) (uses inner T) opened printed →
    in_front new ≡ in_front printed → new.used.items ≡ take first printed.used.items →
    Prints (text E T (under next count ns) (next + count)) (uses_under count ns T) old new
under_done E T ns inner next after count first old opened printed new e start is f same more h closed cut =
    prints_under (text E T (under next count ns) (next + count)) next count ns (λ x. is_used x T) old opened printed new e same more
    (named_as E T inner (under next count ns) after (next + count) opened printed is f h) closed
    (cut ∙ ap (λ (n : ℕ). take n printed.used.items) start)

-- The flag of the first of these binders.
pub flag_told : (E : Environment) (T : Tree) (ns inner : List ℕ) (next after count : ℕ) (old opened printed : Output) (flag : Bool) →
    length old.used.items ≡ next → inner ≡ under next count ns → opened.used.items ≡ old.used.items ++ replicate count false →
    Prints (text E T inner after) (uses inner T) opened printed →
    1 ≤ count → flag ≡ get_or printed.used.items next false → flag ≡ is_used (count - 1) T
flag_told E T ns inner next after zero old opened printed flag e is more h l read = absurd (omega (arith, l))
flag_told E T ns inner next after (suc n) old opened printed flag e is more h l read =
    read
    ∙ first_flag next n ns (λ x. is_used x T) old.used.items printed.used.items e
    (subst (λ (f : List Bool). Marked (uses (under next (suc n) ns) T) f printed.used.items) more
    (subst (λ (xs : List ℕ). Marked (uses xs T) opened.used.items printed.used.items) is h.marks))
    ∙ ap (λ (k : ℕ). is_used k T) (less n)
  where
    less : (m : ℕ) → m ≡ suc m - 1
    less m = omega arith

pub flag_read : (f : List Bool) (i n : ℕ) (b : Bool) → b ≡ get_or f i b → i ≡ n → n < length f → b ≡ get_or f n false
flag_read f i n b read same l = get_or_read f n b l (read ∙ ap (λ (k : ℕ). get_or f k b) same) false

-- A term without parts.
only_text : (E : Environment) (T T' : Tree) (words : List ℕ) (ns : List ℕ) (next : ℕ) (old new : Output) → T ≡ T' →
    words ≡ text E T' ns next → ((x : ℕ) → is_used x T' ≡ false) → Puts words old new →
    Prints (text E T ns next) (uses ns T) old new
only_text E T T' words ns next old new is e none h =
    prints_tree E T T' ns next old new is
    (prints_as words (text E T' ns next) old new e
    (λ i l. sym (at_cong ns i (λ x. is_used x T') (λ x. false) none ∙ at_none ns i)) (only_puts words old new h))

pub sort_arm : (E : Environment) (T : Tree) (s : TreeSort) (ns : List ℕ) (next : ℕ) (old new : Output) → T ≡ sort s → Puts (sort_text s) old new →
    Prints (text E T ns next) (uses ns T) old new
sort_arm E T s ns next old new is h = only_text E T (sort s) (sort_text s) ns next old new is refl (λ x. refl) h

pub id_arm : (E : Environment) (t : Term) (id : GlobalId) (ns : List ℕ) (next : ℕ) (old new : Output) → (t ≡ Const id) ⊎ ((t ≡ Ind id) ⊎ (t ≡ Ctor id)) → Puts (id_text id) old new →
    Prints (text E (tree t) ns next) (uses ns (tree t)) old new
id_arm E t id ns next old new (inl is) h = only_text E (tree t) (const id) (id_text id) ns next old new (ap tree is) refl (λ x. refl) h
id_arm E t id ns next old new (inr (inl is)) h = only_text E (tree t) (ind id) (id_text id) ns next old new (ap tree is) refl (λ x. refl) h
id_arm E t id ns next old new (inr (inr is)) h = only_text E (tree t) (ctor id) (id_text id) ns next old new (ap tree is) refl (λ x. refl) h

-- Variables, by what they stand for.
pub text_of_variable : (ns : List ℕ) (x : ℕ) → variable_as_text (variable ns x) ≡ variable_text ns x
text_of_variable [] x = refl
text_of_variable (n ∷ ns) zero = refl
text_of_variable (n ∷ ns) (suc x) = text_of_variable ns x

or_true : (b : Bool) → true ≡ (b || true)
or_true true = refl
or_true false = refl

or_false : (b : Bool) → b ≡ (b || false)
or_false true = refl
or_false false = refl

flag_set : (f g : List Bool) (n i : ℕ) → g ≡ set f n true → n < length f → get_or g i false ≡ (get_or f i false || eqb i n)
flag_set f g n i e l = elim (cases_eq i n) [
  | inl same ↦
      ap (λ (h : List Bool). get_or h i false) e ∙ ap (λ (k : ℕ). get_or (set f n true) k false) same ∙ get_or-set_same f n true false l
      ∙ or_true (get_or f i false) ∙ ap (λ (b : Bool). get_or f i false || b) (sym (eq-eqb i n same))
  | inr apart ↦
      ap (λ (h : List Bool). get_or h i false) e ∙ get_or-set_other f n i true false apart
      ∙ or_false (get_or f i false) ∙ ap (λ (b : Bool). get_or f i false || b) (sym (ne_eqb i n apart))
]

pub bound_below : (b n x : ℕ) (ns : List ℕ) → Descends b ns → Bound n ≡ variable ns x → n < b
bound_below b n x ns h e = subst (IsBelow b) (sym e) (variable_below b ns x h)

pub bound_arm : (b n x : ℕ) (ns : List ℕ) (old mid new : Output) → Descends b ns → Bound n ≡ variable ns x → n < length old.used.items →
    in_front mid ≡ in_front old → mid.used.items ≡ set old.used.items n true → Puts (name_text n) mid new →
    Prints (variable_text ns x) (λ i. at ns i (λ y. eqb x y)) old new
bound_arm b n x ns old mid new below is l same more h = record {
  front = h.front ∙ ap (λ (t : List ℕ). name_text n ++ t) same ∙ ap (λ (t : List ℕ). t ++ in_front old) (ap variable_as_text is ∙ text_of_variable ns x);
  marks =
      marked_as old.used.items new.used.items (λ i k. ap (λ (v : Variable). is_number v i) is ∙ sym (at_variable b ns x i below))
      (record {
        same = ap length (h.used ∙ more) ∙ length-set old.used.items n true;
        each = λ i k. flag_set old.used.items new.used.items n i (h.used ∙ more) l;
      });
}

pub free_arm : (b k x : ℕ) (ns : List ℕ) (old new : Output) → Descends b ns → Free k ≡ variable ns x → Puts (codes "?" ++ decimal k) old new →
    Prints (variable_text ns x) (λ i. at ns i (λ y. eqb x y)) old new
free_arm b k x ns old new below is h =
    prints_as _ _ old new (ap variable_as_text is ∙ text_of_variable ns x)
    (λ i l. ap (λ (v : Variable). is_number v i) is ∙ sym (at_variable b ns x i below)) (only_puts _ old new h)

-- What stands before the motive of a match.
pub pattern_as : (E : Environment) (id : GlobalId) (bs : Children) (arity next shown count : ℕ) (old new : Output) → shown ≡ next → count ≡ length (parts E bs) →
    Puts (name_text (shown + arity) ++ codes " in " ++ id_text id ++ parameters_text (known.heads E id count).parameters ++ names_text shown arity) old new →
    Puts (pattern_text id (known_heads E id bs) arity next) old new
pattern_as E id bs arity next shown count old new e f h =
    subst (λ (n : ℕ). Puts (name_text (n + arity) ++ codes " in " ++ id_text id ++ parameters_text (known_heads E id bs).parameters ++ names_text n arity) old new) e
    (subst (λ (m : ℕ). Puts (name_text (shown + arity) ++ codes " in " ++ id_text id ++ parameters_text (known.heads E id m).parameters ++ names_text shown arity) old new) f h)

-- All branches of a match.
pub all_branches : (E : Environment) (id : GlobalId) (seen : known.Heads) (bs : List Branch) (ks : Children) (i : ℕ) (ns : List ℕ) (next : ℕ) (old new : Output) →
    i ≡ 0 → ks ≡ branch_list bs → seen ≡ known.heads E id (length bs) → branches_from E seen bs i ns next old new →
    Prints (all_branches_text E id ks ns next) (parts_uses ns ks) old new
all_branches E id seen bs ks i ns next old new none is known_as h =
    let at_first : branches_from E seen bs 0 ns next old new = subst (λ (j : ℕ). branches_from E seen bs j ns next old new) none h in
    let of_type : branches_from E (known.heads E id (length bs)) bs 0 ns next old new = subst (λ (k : known.Heads). branches_from E k bs 0 ns next old new) known_as at_first in
    let counted : branches_from E (known_heads E id (branch_list bs)) bs 0 ns next old new =
    subst (λ (n : ℕ). branches_from E (known.heads E id n) bs 0 ns next old new) (sym (count_branches E bs)) of_type in
    subst (λ (k : Children). Prints (all_branches_text E id k ns next) (parts_uses ns k) old new) (sym is) counted

-- All domains of a function.
pub all_domains : (E : Environment) (ds : List Term) (ks : Children) (j : ℕ) (ns : List ℕ) (next : ℕ) (old new : Output) →
    j ≡ 0 → ks ≡ term_list 0 ds → domains_from E ds j ns next old new →
    PrintsBelow next (domains_text (parts E ks) ns next) (parts_uses ns ks) old new
all_domains E ds ks j ns next old new none is h =
    let at_first : domains_from E ds 0 ns next old new = subst (λ (i : ℕ). domains_from E ds i ns next old new) none h in
    let numbered : PrintsBelow next (domains_text (parts E (term_list 0 ds)) ns next) (parts_uses ns (term_list 0 ds)) old new =
    subst (λ (n : ℕ). PrintsBelow next (domains_text (parts E (term_list 0 ds)) ns n) (parts_uses ns (term_list 0 ds)) old new) (add-zero next) at_first in
    subst (λ (k : Children). PrintsBelow next (domains_text (parts E k) ns next) (parts_uses ns k) old new) (sym is) numbered

-- All functions of a fix.
pub all_functions : (E : Environment) (bs : List FixBody) (ks : Children) (ss : List Shape) (i : ℕ) (ns : List ℕ) (next : ℕ) (old new : Output) →
    i ≡ 0 → ks ≡ body_list (length bs) bs → ss ≡ shape_list bs → functions_from E (length bs) bs i ns next old new →
    PrintsBelow next (functions_text (length ss) ss next (parts E ks) ns next) (parts_uses ns ks) old new
all_functions E bs ks ss i ns next old new none is shaped h =
    let at_first : functions_from E (length bs) bs 0 ns next old new = subst (λ (j : ℕ). functions_from E (length bs) bs j ns next old new) none h in
    let numbered : PrintsBelow next (functions_text (length bs) (shape_list bs) next (parts E (body_list (length bs) bs)) ns next) (parts_uses ns (body_list (length bs) bs)) old new =
    subst (λ (n : ℕ). PrintsBelow next (functions_text (length bs) (shape_list bs) n (parts E (body_list (length bs) bs)) ns next) (parts_uses ns (body_list (length bs) bs)) old new) (add-zero next) at_first in
    let counted : PrintsBelow next (functions_text (length (shape_list bs)) (shape_list bs) next (parts E (body_list (length bs) bs)) ns next) (parts_uses ns (body_list (length bs) bs)) old new =
    subst (λ (n : ℕ). PrintsBelow next (functions_text n (shape_list bs) next (parts E (body_list (length bs) bs)) ns next) (parts_uses ns (body_list (length bs) bs)) old new) (sym (count_shapes bs)) numbered in
    let of_shapes : PrintsBelow next (functions_text (length ss) ss next (parts E (body_list (length bs) bs)) ns next) (parts_uses ns (body_list (length bs) bs)) old new =
    subst (λ (xs : List Shape). PrintsBelow next (functions_text (length xs) xs next (parts E (body_list (length bs) bs)) ns next) (parts_uses ns (body_list (length bs) bs)) old new) (sym shaped) counted in
    subst (λ (k : Children). PrintsBelow next (functions_text (length ss) ss next (parts E k) ns next) (parts_uses ns k) old new) (sym is) of_shapes

-- How many domains a function has.
pub count_domains : (E : Environment) (ts : Terms) (seen : List Term) → terms ts ≡ term_list 0 seen → length seen ≡ length ts.items.items
count_domains E ts seen e =
    sym (count_terms E 0 seen) ∙ ap (λ (ks : Children). length (parts E ks)) (sym e) ∙ count_terms E 0 ts.items.items

-- A function, with the names that its parts are printed with.
pub function_done : (E : Environment) (all i first domains : ℕ) (place : P.Place) (b : FixBody) (ns fs bs os : List ℕ) (next after inner outer : ℕ)
    (old opened bodied defined typed structed bound new : Output) →
    first ≡ next + all → length old.used.items ≡ next + all → domains ≡ domain_count b →
    fs ≡ under next all ns → after ≡ next + all → bs ≡ under after domains fs → inner ≡ after + domains →
    os ≡ under (first + 0) domains ns → outer ≡ first + 0 + domains →
    in_front opened ≡ in_front old → opened.used.items ≡ old.used.items ++ replicate domains false → length opened.used.items ≡ length old.used.items + domains →
    Prints (in_place place (tree b.body) (text E (tree b.body) bs inner)) (uses bs (tree b.body)) opened bodied → length bodied.used.items ≡ length opened.used.items →
    Puts (codes " := ") bodied defined → length defined.used.items ≡ length bodied.used.items →
    Prints (text E (tree b.codomain) os outer) (uses os (tree b.codomain)) defined typed → length typed.used.items ≡ length defined.used.items →
    Puts (struct_text (first + b.k)) typed structed → length structed.used.items ≡ length typed.used.items →
    PrintsBelow (first + 0) (domains_text (parts E (terms b.domains)) ns (first + 0)) (parts_uses ns (terms b.domains)) structed bound →
    Puts (name_text (first - all + i)) bound new →
    PrintsBelow next (function_of E all place (next + i) b ns next) (parts_uses ns (body_parts all b)) old new
function_done E all i first domains place b ns fs bs os next after inner outer old opened bodied defined typed structed bound new
    start long counted is_fs is_after is_bs is_inner is_os is_outer front more long1 body long2 p long3 codomain long4 q long5 ds r =
    let m : ℕ = domain_count b in
    let inside : inner ≡ next + all + m = is_inner ∙ ap₂ (λ (x y : ℕ). x + y) is_after counted in
    let outside : outer ≡ next + all + m = is_outer ∙ ap₂ (λ (x y : ℕ). x + y) (add-zero first ∙ start) counted in
    let body_names : bs ≡ under (next + all) m (under next all ns) =
    is_bs ∙ ap₂ (λ (x y : ℕ). under x y fs) is_after counted ∙ ap (under (next + all) m) is_fs in
    let codomain_names : os ≡ under (next + all) m ns = is_os ∙ ap₂ (λ (x y : ℕ). under x y ns) (add-zero first ∙ start) counted in
    let result : PrintsBelow next (result_of E all place b ns next) (λ n. at ns n (λ x. is_used (x + m) (tree b.codomain) || is_used (x + (all + m)) (tree b.body))) old typed =
    result_arm E all m place (tree b.codomain) (tree b.body) ns bs os next (next + all + m) old opened bodied defined typed
    (omega (arith, long)) body_names codomain_names refl front
    (more ∙ ap (λ (n : ℕ). old.used.items ++ replicate n false) counted) (long1 ∙ ap (λ (n : ℕ). length old.used.items + n) counted) (long3 ∙ long2)
    (subst (λ (n : ℕ). Prints (in_place place (tree b.body) (text E (tree b.body) bs n)) (uses bs (tree b.body)) opened bodied) inside body) p
    (subst (λ (n : ℕ). Prints (text E (tree b.codomain) os n) (uses os (tree b.codomain)) defined typed) outside codomain) in
    function_arm E all place (next + i) (first - all + i) b ns next (first + b.k) (first + 0) old typed structed bound new
    (shown start) (ap (λ (n : ℕ). n + b.k) start) (add-zero first ∙ start)
    (omega (arith, long, long1, long2, long3, long4, long5)) (omega (arith, long, long1, long2, long3, long4, long5, start))
    result q ds r
  where
    shown : first ≡ next + all → first - all + i ≡ next + i
    shown e = omega (arith, e)
