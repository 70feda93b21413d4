-- The texts of terms from those of their parts, as the code puts them in front of one another.
use Rattle.std.proofs.Common.{◌≡◌, ℕ, ◌+◌, ◌-◌, List, ◌++◌, Bool, true, false, ◌||◌, codes, refl, sym, ap, ◌∙◌, arith, append_assoc, subst}
use Rattle.cic_names.specs.declared.name.GlobalId.{GlobalId}
use Rattle.cic_names.specs.Texts.{id_text}
use Rattle.cic_terms.specs.Tree.{Tree, Children, prod, lam, let_in, app, case}
use Rattle.cic_rules.specs.Environment.{Environment}
use Rattle.gal_print.specs.Heads.{Heads}
use Rattle.gal_print.specs.Printing.{text, parts, under, is_used, parts_use, in_place, function_place, argument_place, product_text, match_text, name_text, names_text, parameters_text}
use Rattle.gal_print.specs.calls.Names.{at, uses, uses_under}
use Rattle.gal_print.specs.calls.Output.{Puts, Prints}
use Rattle.gal_print.specs.calls.Places.{type_text, all_branches_text, known_heads, parts_uses}
use Rattle.gal_print.specs.declared.output.Output.{Output}
use Rattle.gal_print.proofs.Numbers.{at_or, at_none}
use Rattle.gal_print.proofs.Fronts.{then_puts, puts_then, prints_both, prints_as}

two : (p q : Bool) → (q || p) ≡ (p || (q || false))
two true true = refl
two true false = refl
two false true = refl
two false false = refl

three : (t a u : Bool) → ((u || t) || a) ≡ (t || (a || (u || false)))
three true true true = refl
three true true false = refl
three true false true = refl
three true false false = refl
three false true true = refl
three false true false = refl
three false false true = refl
three false false false = refl

turned : (m v b : Bool) → ((b || m) || v) ≡ (m || (v || b))
turned true true true = refl
turned true true false = refl
turned true false true = refl
turned true false false = refl
turned false true true = refl
turned false true false = refl
turned false false true = refl
turned false false false = refl

last_used : (ns : List ℕ) (i : ℕ) (P : ℕ → Bool) → at ns i (λ x. P x || false) ≡ (at ns i P || false)
last_used ns i P = at_or ns i P (λ x. false) ∙ ap (λ (b : Bool). at ns i P || b) (at_none ns i)

pub two_used : (ns : List ℕ) (P Q : ℕ → Bool) (i : ℕ) → (at ns i Q || at ns i P) ≡ at ns i (λ x. P x || (Q x || false))
two_used ns P Q i = two (at ns i P) (at ns i Q) ∙ sym (at_or ns i P (λ x. Q x || false) ∙ ap (λ (b : Bool). at ns i P || b) (last_used ns i Q))

pub three_used : (ns : List ℕ) (P Q R : ℕ → Bool) (i : ℕ) → ((at ns i R || at ns i P) || at ns i Q) ≡ at ns i (λ x. P x || (Q x || (R x || false)))
three_used ns P Q R i =
    three (at ns i P) (at ns i Q) (at ns i R)
    ∙ sym (at_or ns i P (λ x. Q x || (R x || false))
    ∙ ap (λ (b : Bool). at ns i P || b) (at_or ns i Q (λ x. R x || false) ∙ ap (λ (b : Bool). at ns i Q || b) (last_used ns i R)))

pub match_used : (ns : List ℕ) (M V B : ℕ → Bool) (i : ℕ) → ((at ns i B || at ns i M) || at ns i V) ≡ at ns i (λ x. M x || (V x || B x))
match_used ns M V B i =
    turned (at ns i M) (at ns i V) (at ns i B)
    ∙ sym (at_or ns i M (λ x. V x || B x) ∙ ap (λ (b : Bool). at ns i M || b) (at_or ns i V B))

-- A term is printed as the tree that it stands for.
pub prints_tree : (E : Environment) (T T' : Tree) (ns : List ℕ) (next : ℕ) (old new : Output) → T ≡ T' → Prints (text E T' ns next) (uses ns T') old new → Prints (text E T ns next) (uses ns T) old new
prints_tree E T T' ns next old new e h = subst (λ (t : Tree). Prints (text E t ns next) (uses ns t) old new) (sym e) h

four : (a b c d : List ℕ) → a ++ (b ++ (c ++ d)) ≡ a ++ b ++ c ++ d
four a b c d = simp append_assoc

six : (a b c d e f : List ℕ) → a ++ (b ++ (c ++ (d ++ (e ++ f)))) ≡ a ++ b ++ c ++ d ++ e ++ f
six a b c d e f = simp append_assoc

pub product_arm : (E : Environment) (T A B : Tree) (ns : List ℕ) (next : ℕ) (old m1 m2 m3 new : Output) → T ≡ prod A B → is_used 0 B ≡ true →
    Prints (text E B (under next 1 ns) (next + 1)) (uses_under 1 ns B) old m1 → Puts (codes ", ") m1 m2 →
    Prints (type_text E A ns next) (uses ns A) m2 m3 → Puts (codes "forall ") m3 new →
    Prints (text E T ns next) (uses ns T) old new
product_arm E T A B ns next old m1 m2 m3 new is used h p k q =
    prints_tree E T (prod A B) ns next old new is
    (prints_as _ _ old new
    (four (codes "forall ") (type_text E A ns next) (codes ", ") (text E B (under next 1 ns) (next + 1))
    ∙ ap (λ (u : Bool). product_text u (record { binders = 0; tree = A; text = text E A }) (record { binders = 0 + 1; tree = B; text = text E B }) ns next) (sym used))
    (λ i l. two_used ns (λ x. is_used x A) (λ x. is_used (x + 1) B) i)
    (then_puts _ _ old m3 new (prints_both _ _ old m2 m3 (then_puts _ _ old m1 m2 h p) k) q))

pub arrow_arm : (E : Environment) (T A B : Tree) (ns : List ℕ) (next : ℕ) (old m1 m2 new : Output) → T ≡ prod A B → is_used 0 B ≡ false →
    Prints (text E B (under next 1 ns) (next + 1)) (uses_under 1 ns B) old m1 → Puts (codes " -> ") m1 m2 →
    Prints (in_place function_place A (text E A ns next)) (uses ns A) m2 new →
    Prints (text E T ns next) (uses ns T) old new
arrow_arm E T A B ns next old m1 m2 new is unused h p k =
    prints_tree E T (prod A B) ns next old new is
    (prints_as _ _ old new
    (sym (append_assoc (in_place function_place A (text E A ns next)) (codes " -> ") (text E B (under next 1 ns) (next + 1)))
    ∙ ap (λ (u : Bool). product_text u (record { binders = 0; tree = A; text = text E A }) (record { binders = 0 + 1; tree = B; text = text E B }) ns next) (sym unused))
    (λ i l. two_used ns (λ x. is_used x A) (λ x. is_used (x + 1) B) i)
    (prints_both _ _ old m2 new (then_puts _ _ old m1 m2 h p) k))

pub abstraction_arm : (E : Environment) (T A B : Tree) (ns : List ℕ) (next : ℕ) (old m1 m2 m3 new : Output) → T ≡ lam A B →
    Prints (text E B (under next 1 ns) (next + 1)) (uses_under 1 ns B) old m1 → Puts (codes " => ") m1 m2 →
    Prints (type_text E A ns next) (uses ns A) m2 m3 → Puts (codes "fun ") m3 new →
    Prints (text E T ns next) (uses ns T) old new
abstraction_arm E T A B ns next old m1 m2 m3 new is h p k q =
    prints_tree E T (lam A B) ns next old new is
    (prints_as _ _ old new
    (four (codes "fun ") (type_text E A ns next) (codes " => ") (text E B (under next 1 ns) (next + 1)))
    (λ i l. two_used ns (λ x. is_used x A) (λ x. is_used (x + 1) B) i)
    (then_puts _ _ old m3 new (prints_both _ _ old m2 m3 (then_puts _ _ old m1 m2 h p) k) q))

pub let_arm : (E : Environment) (T t a u : Tree) (ns : List ℕ) (next : ℕ) (old m1 m2 m3 m4 m5 new : Output) → T ≡ let_in t a u →
    Prints (text E u (under next 1 ns) (next + 1)) (uses_under 1 ns u) old m1 → Puts (codes " in ") m1 m2 →
    Prints (text E t ns next) (uses ns t) m2 m3 → Puts (codes " := ") m3 m4 →
    Prints (type_text E a ns next) (uses ns a) m4 m5 → Puts (codes "let ") m5 new →
    Prints (text E T ns next) (uses ns T) old new
let_arm E T t a u ns next old m1 m2 m3 m4 m5 new is h p k q j r =
    prints_tree E T (let_in t a u) ns next old new is
    (prints_as _ _ old new
    (six (codes "let ") (type_text E a ns next) (codes " := ") (text E t ns next) (codes " in ") (text E u (under next 1 ns) (next + 1)))
    (λ i l. three_used ns (λ x. is_used x t) (λ x. is_used x a) (λ x. is_used (x + 1) u) i)
    (then_puts _ _ old m5 new (prints_both _ _ old m4 m5 (then_puts _ _ old m3 m4 (prints_both _ _ old m2 m3 (then_puts _ _ old m1 m2 h p) k) q) j) r))

pub application_arm : (E : Environment) (T f x : Tree) (ns : List ℕ) (next : ℕ) (old m1 m2 new : Output) → T ≡ app f x →
    Prints (in_place argument_place x (text E x ns next)) (uses ns x) old m1 → Puts (codes " ") m1 m2 →
    Prints (in_place function_place f (text E f ns next)) (uses ns f) m2 new →
    Prints (text E T ns next) (uses ns T) old new
application_arm E T f x ns next old m1 m2 new is h p k =
    prints_tree E T (app f x) ns next old new is
    (prints_as _ _ old new
    (sym (append_assoc (in_place function_place f (text E f ns next)) (codes " ") (in_place argument_place x (text E x ns next))))
    (λ i l. two_used ns (λ y. is_used y f) (λ y. is_used y x) i)
    (prints_both _ _ old m2 new (then_puts _ _ old m1 m2 h p) k))

-- What stands between the value of a match and its motive.
abbrev pub pattern_text : GlobalId → Heads → (arity next : ℕ) → List ℕ
pattern_text id known arity next = name_text (next + arity) ++ codes " in " ++ id_text id ++ parameters_text known.parameters ++ names_text next arity

match_regroup : (a v b n c i p ns r m w bs e : List ℕ) →
    a ++ (v ++ (b ++ ((n ++ c ++ i ++ p ++ ns) ++ (r ++ (m ++ (w ++ (bs ++ e))))))) ≡ a ++ v ++ b ++ n ++ c ++ i ++ p ++ ns ++ r ++ m ++ w ++ bs ++ e
match_regroup a v b n c i p ns r m w bs e = simp append_assoc

pub match_arm : (E : Environment) (T : Tree) (id : GlobalId) (arity : ℕ) (M V : Tree) (bs : Children) (ns : List ℕ) (next : ℕ) (old m1 m2 m3 m4 m5 m6 m7 m8 new : Output) →
    T ≡ case id arity M V bs →
    Puts (codes " end") old m1 → Prints (all_branches_text E id bs ns next) (parts_uses ns bs) m1 m2 →
    Puts (codes " with") m2 m3 → Prints (text E M (under next (arity + 1) ns) (next + (arity + 1))) (uses_under (arity + 1) ns M) m3 m4 →
    Puts (codes " return ") m4 m5 → Puts (pattern_text id (known_heads E id bs) arity next) m5 m6 → Puts (codes " as ") m6 m7 →
    Prints (text E V ns next) (uses ns V) m7 m8 → Puts (codes "match ") m8 new →
    Prints (text E T ns next) (uses ns T) old new
match_arm E T id arity M V bs ns next old m1 m2 m3 m4 m5 m6 m7 m8 new is p h q k r s t j u =
    prints_tree E T (case id arity M V bs) ns next old new is
    (prints_as _ _ old new
    (match_regroup (codes "match ") (text E V ns next) (codes " as ") (name_text (next + arity)) (codes " in ") (id_text id) (parameters_text (known_heads E id bs).parameters) (names_text next arity)
    (codes " return ") (text E M (under next (arity + 1) ns) (next + (arity + 1))) (codes " with") (all_branches_text E id bs ns next) (codes " end")
    ∙ ap (λ (n : ℕ). match_text id (known_heads E id bs) n (record { binders = 0 + (arity + 1); tree = M; text = text E M }) (record { binders = 0; tree = V; text = text E V }) (parts E bs) ns next) (indices arity))
    (λ i l. match_used ns (λ x. is_used (x + (arity + 1)) M) (λ x. is_used x V) (λ x. parts_use x bs) i)
    (then_puts _ _ old m8 new (prints_both _ _ old m7 m8
    (then_puts _ _ old m6 m7 (then_puts _ _ old m5 m6 (then_puts _ _ old m4 m5
    (prints_both _ _ old m3 m4 (then_puts _ _ old m2 m3 (puts_then _ _ old m1 m2 p h) q) k) r) s) t) j) u))
  where
    indices : (n : ℕ) → n ≡ 0 + (n + 1) - 1
    indices n = omega arith
