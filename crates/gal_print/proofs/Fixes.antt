-- The functions of a fix, as the code puts their parts in front of one another.
use Rattle.std.proofs.Common.{◌≡◌, ℕ, suc, ◌+◌, ◌≤◌, List, [], ◌∷◌, ◌++◌, length, take, Bool, true, false, ◌||◌, codes, refl, sym, ap, ap₂, ◌∙◌, arith, append_assoc, replicate}
use Rattle.cic_terms.specs.Tree.{Tree, Children, no_child, child, join, fix, many, over, Shape}
use Rattle.cic_terms.specs.Denotes.{tree, terms, term_list, body_list, body_parts, shape_list, domain_count}
use Rattle.cic_terms.specs.declared.term.Term.{Term}
use Rattle.cic_terms.specs.declared.term.FixBody.{FixBody}
use Rattle.cic_rules.specs.Environment.{Environment}
use Rattle.gal_print.specs.Printing as P
use Rattle.gal_print.specs.Printing.{text, parts, under, is_used, parts_use, in_place, alone, function_place, name_text, domains_text, functions_text, which_text}
use Rattle.gal_print.specs.calls.Names.{at, uses, uses_under}
use Rattle.gal_print.specs.calls.Output.{Puts, Prints, PrintsBelow, in_front}
use Rattle.gal_print.specs.calls.Places.{type_text, parts_uses, result_of, struct_text, function_of}
use Rattle.gal_print.specs.declared.output.Output.{Output}
use Rattle.gal_print.proofs.Numbers.{at_or, at_cong, at_under}
use Rattle.gal_print.proofs.Fronts.{then_puts, puts_then, prints_as}
use Rattle.gal_print.proofs.Below.{below_of, below_as, below_both, below_then_puts, below_from, below_lower, prints_between, take_closed, take_opened}
use Rattle.gal_print.proofs.Parts.{last_function, function_before}
use Rattle.gal_print.proofs.Arms.{prints_tree}

pub or_turned : (p q : Bool) → (q || p) ≡ (p || q)
or_turned true true = refl
or_turned true false = refl
or_turned false true = refl
or_turned false false = refl

or_assoc : (p q r : Bool) → (p || (q || r)) ≡ ((p || q) || r)
or_assoc true q r = refl
or_assoc false q r = refl

pub or_false : (p : Bool) → p ≡ (p || false)
or_false true = refl
or_false false = refl

pub parts_use_join : (a b : Children) (x : ℕ) → parts_use x (join a b) ≡ (parts_use x a || parts_use x b)
parts_use_join no_child b x = refl
parts_use_join (child n t ks) b x = ap (λ (u : Bool). is_used (over n x) t || u) (parts_use_join ks b x) ∙ or_assoc (is_used (over n x) t) (parts_use x ks) (parts_use x b)

three : (a b c : List ℕ) → a ++ (b ++ c) ≡ a ++ b ++ c
three a b c = sym (append_assoc a b c)

four : (a b c d : List ℕ) → a ++ (b ++ (c ++ d)) ≡ a ++ b ++ c ++ d
four a b c d = simp append_assoc

-- A domain under earlier ones.
pub domain_arm : (E : Environment) (T : Tree) (ns inner : List ℕ) (next after j : ℕ) (old m0 m1 m2 new : Output) →
    inner ≡ under next j ns → after ≡ next + j → next + j ≤ length old.used.items →
    in_front m0 ≡ in_front old → m0.used.items ≡ take (next + j) old.used.items → length m0.used.items ≡ next + j →
    Puts (codes ")") m0 m1 → Prints (type_text E T inner after) (uses inner T) m1 m2 → Puts (codes " (") m2 new →
    PrintsBelow next (codes " (" ++ type_text E T (under next j ns) (next + j) ++ codes ")") (uses_under j ns T) old new
domain_arm E T ns inner next after j old m0 m1 m2 new e f l same cut long p h q =
    below_from next _ old m0 new same (take_closed next (next + j) old.used.items m0.used.items (omega arith) cut)
    (below_as next _ _ m0 new
    (three (codes " (") (type_text E T inner after) (codes ")") ∙ ap₂ (λ (xs : List ℕ) (n : ℕ). codes " (" ++ type_text E T xs n ++ codes ")") e f)
    (λ i k. ap (λ (xs : List ℕ). at xs i (λ x. is_used x T)) e ∙ at_under next j ns i (λ x. is_used x T) k)
    (below_of next _ m0 new (omega (arith, long))
    (then_puts _ _ m0 m2 new (puts_then _ _ m0 m1 m2 p h) q)))

-- One more domain in front of others.
pub domain_more : (E : Environment) (d : Term) (ds : List Term) (j : ℕ) (ns : List ℕ) (next : ℕ) (old mid new : Output) →
    PrintsBelow next (domains_text (parts E (term_list (j + 1) ds)) (under next (suc j) ns) (next + (j + 1))) (parts_uses ns (term_list (j + 1) ds)) old mid →
    PrintsBelow next (codes " (" ++ type_text E (tree d) (under next j ns) (next + j) ++ codes ")") (uses_under j ns (tree d)) mid new →
    PrintsBelow next (domains_text (parts E (term_list j (d ∷ ds))) (under next j ns) (next + j)) (parts_uses ns (term_list j (d ∷ ds))) old new
domain_more E d ds j ns next old mid new h k =
    below_as next _ _ old new
    (ap (λ (n : ℕ). codes " (" ++ type_text E (tree d) (under next j ns) (next + j) ++ codes ")" ++ domains_text (parts E (term_list (j + 1) ds)) (under next (suc j) ns) n) (sums next j))
    (λ i l. or_turned (at ns i (λ x. is_used (x + j) (tree d))) (at ns i (λ x. parts_use x (term_list (j + 1) ds))) ∙ sym (at_or ns i (λ x. is_used (x + j) (tree d)) (λ x. parts_use x (term_list (j + 1) ds))))
    (below_both next _ _ old mid new h k)
  where
    sums : (n m : ℕ) → n + (m + 1) ≡ n + m + 1
    sums n m = omega arith

-- The codomain and the body of a function.
pub result_arm : (E : Environment) (all m : ℕ) (place : P.Place) (C B : Tree) (ns fs os : List ℕ) (next inner : ℕ) (old m0 m1 m2 new : Output) →
    next + all ≤ length old.used.items → fs ≡ under (next + all) m (under next all ns) → os ≡ under (next + all) m ns → inner ≡ next + all + m →
    in_front m0 ≡ in_front old → m0.used.items ≡ old.used.items ++ replicate m false → length m0.used.items ≡ length old.used.items + m → length m2.used.items ≡ length m0.used.items →
    Prints (in_place place B (text E B fs inner)) (uses fs B) m0 m1 → Puts (codes " := ") m1 m2 → Prints (text E C os inner) (uses os C) m2 new →
    PrintsBelow next
    (text E C (under (next + all) m ns) (next + all + m) ++ codes " := " ++ in_place place B (text E B (under (next + all) m (under next all ns)) (next + all + m)))
    (λ i. at ns i (λ x. is_used (x + m) C || is_used (x + (all + m)) B)) old new
result_arm E all m place C B ns fs os next inner old m0 m1 m2 new l e f g same more long kept h p k =
    below_from next _ old m0 new same (take_opened next m old.used.items m0.used.items (omega (arith, l)) more)
    (below_as next _ _ m0 new
    (three (text E C os inner) (codes " := ") (in_place place B (text E B fs inner))
    ∙ ap₂ (λ (x : List ℕ) (y : List ℕ). x ++ codes " := " ++ y)
    (ap₂ (λ (xs : List ℕ) (n : ℕ). text E C xs n) f g)
    (ap₂ (λ (xs : List ℕ) (n : ℕ). in_place place B (text E B xs n)) e g))
    (λ i b.
    ap₂ (λ (u v : Bool). u || v)
    (ap (λ (xs : List ℕ). at xs i (λ x. is_used x B)) e ∙ at_under (next + all) m (under next all ns) i (λ x. is_used x B) (omega (arith, b))
    ∙ at_under next all ns i (λ x. is_used (x + m) B) b ∙ at_cong ns i (λ x. is_used (x + all + m) B) (λ x. is_used (x + (all + m)) B) (λ x. ap (λ (n : ℕ). is_used n B) (sums x)))
    (ap (λ (xs : List ℕ). at xs i (λ x. is_used x C)) f ∙ at_under (next + all) m ns i (λ x. is_used x C) (omega (arith, b)))
    ∙ or_turned (at ns i (λ x. is_used (x + m) C)) (at ns i (λ x. is_used (x + (all + m)) B))
    ∙ sym (at_or ns i (λ x. is_used (x + m) C) (λ x. is_used (x + (all + m)) B)))
    (below_both next _ _ m0 m2 new
    (below_then_puts next _ _ m0 m1 m2 (below_of next _ m0 m1 (omega (arith, l, long)) h) p)
    (below_of next _ m2 new (omega (arith, l, long, kept)) k)))
  where
    sums : (x : ℕ) → x + all + m ≡ x + (all + m)
    sums x = omega arith

-- A function.
pub function_arm : (E : Environment) (all : ℕ) (place : P.Place) (number shown : ℕ) (b : FixBody) (ns : List ℕ) (next bound after : ℕ) (old m0 m1 m2 new : Output) →
    shown ≡ number → bound ≡ next + all + b.k → after ≡ next + all → next ≤ length m1.used.items → after ≤ length m1.used.items →
    PrintsBelow next (result_of E all place b ns next) (λ i. at ns i (λ x. is_used (x + domain_count b) (tree b.codomain) || is_used (x + (all + domain_count b)) (tree b.body))) old m0 →
    Puts (struct_text bound) m0 m1 → PrintsBelow after (domains_text (parts E (terms b.domains)) ns after) (parts_uses ns (terms b.domains)) m1 m2 → Puts (name_text shown) m2 new →
    PrintsBelow next (function_of E all place number b ns next) (parts_uses ns (body_parts all b)) old new
function_arm E all place number shown b ns next bound after old m0 m1 m2 new e f g l l' h p k q =
    let Result : ℕ → Bool = λ x. is_used (x + domain_count b) (tree b.codomain) || is_used (x + (all + domain_count b)) (tree b.body) in
    below_as next _ _ old new
    (four (name_text shown) (domains_text (parts E (terms b.domains)) ns after) (struct_text bound) (result_of E all place b ns next)
    ∙ ap₂ (λ (s n : ℕ). name_text s ++ domains_text (parts E (terms b.domains)) ns after ++ struct_text n ++ result_of E all place b ns next) e f
    ∙ ap (λ (n : ℕ). name_text number ++ domains_text (parts E (terms b.domains)) ns n ++ struct_text (next + all + b.k) ++ result_of E all place b ns next) g)
    (λ i below.
    or_turned (at ns i (λ x. parts_use x (terms b.domains))) (at ns i Result)
    ∙ sym (at_or ns i (λ x. parts_use x (terms b.domains)) Result)
    ∙ at_cong ns i (λ x. parts_use x (terms b.domains) || Result x) (λ x. parts_use x (body_parts all b))
    (λ x. sym (parts_use_join (terms b.domains) (child (many (domain_count b)) (tree b.codomain) (child (many (all + domain_count b)) (tree b.body) no_child)) x
    ∙ ap (λ (u : Bool). parts_use x (terms b.domains) || (is_used (x + domain_count b) (tree b.codomain) || u)) (sym (or_false (is_used (x + (all + domain_count b)) (tree b.body)))))))
    (below_then_puts next _ _ old m2 new
    (below_both next _ _ old m1 m2 (below_then_puts next _ _ old m0 m1 h p) (below_lower next after _ m1 m2 (omega (arith, g)) l l' k)) q)

-- The last function, and one in front of others.
pub functions_start : (E : Environment) (all : ℕ) (b : FixBody) (number : ℕ) (ns : List ℕ) (next : ℕ) (old new : Output) →
    PrintsBelow next (function_of E all alone number b ns next) (parts_uses ns (body_parts all b)) old new →
    PrintsBelow next (functions_text all (shape_list (b ∷ [])) number (parts E (body_list all (b ∷ []))) ns next) (parts_uses ns (body_list all (b ∷ []))) old new
functions_start E all b number ns next old new h =
    below_as next _ _ old new (sym (last_function E all b number ns next))
    (λ i l. at_cong ns i (λ x. parts_use x (body_parts all b)) (λ x. parts_use x (body_list all (b ∷ [])))
    (λ x. or_false (parts_use x (body_parts all b)) ∙ sym (parts_use_join (body_parts all b) no_child x))) h

pub functions_more : (E : Environment) (all : ℕ) (b c : FixBody) (bs : List FixBody) (number : ℕ) (ns : List ℕ) (next : ℕ) (old mid m1 new : Output) →
    PrintsBelow next (functions_text all (shape_list (c ∷ bs)) (number + 1) (parts E (body_list all (c ∷ bs))) ns next) (parts_uses ns (body_list all (c ∷ bs))) old mid →
    Puts (codes " with ") mid m1 →
    PrintsBelow next (function_of E all function_place number b ns next) (parts_uses ns (body_parts all b)) m1 new →
    PrintsBelow next (functions_text all (shape_list (b ∷ c ∷ bs)) number (parts E (body_list all (b ∷ c ∷ bs))) ns next) (parts_uses ns (body_list all (b ∷ c ∷ bs))) old new
functions_more E all b c bs number ns next old mid m1 new h p k =
    below_as next _ _ old new
    (three (function_of E all function_place number b ns next) (codes " with ") (functions_text all (shape_list (c ∷ bs)) (number + 1) (parts E (body_list all (c ∷ bs))) ns next)
    ∙ sym (function_before E all b c bs number ns next))
    (λ i l. or_turned (at ns i (λ x. parts_use x (body_parts all b))) (at ns i (λ x. parts_use x (body_list all (c ∷ bs))))
    ∙ sym (at_or ns i (λ x. parts_use x (body_parts all b)) (λ x. parts_use x (body_list all (c ∷ bs))))
    ∙ at_cong ns i (λ x. parts_use x (body_parts all b) || parts_use x (body_list all (c ∷ bs))) (λ x. parts_use x (body_list all (b ∷ c ∷ bs)))
    (λ x. sym (parts_use_join (body_parts all b) (body_list all (c ∷ bs)) x)))
    (below_both next _ _ old m1 new (below_then_puts next _ _ old mid m1 h p) k)

-- A whole fix.
pub fix_arm : (E : Environment) (T : Tree) (w all : ℕ) (ss : List Shape) (bs : Children) (ns : List ℕ) (next : ℕ) (old m0 m1 m2 m3 new : Output) →
    T ≡ fix w ss bs → all ≡ length ss → length old.used.items ≡ next → length m0.used.items ≡ next →
    Puts (which_text all (length old.used.items + w)) old m0 →
    in_front m1 ≡ in_front m0 → m1.used.items ≡ m0.used.items ++ replicate all false →
    PrintsBelow next (functions_text (length ss) ss next (parts E bs) ns next) (parts_uses ns bs) m1 m2 →
    in_front m3 ≡ in_front m2 → m3.used.items ≡ take next m2.used.items →
    Puts (codes "fix ") m3 new →
    Prints (text E T ns next) (uses ns T) old new
fix_arm E T w all ss bs ns next old m0 m1 m2 m3 new is e f g p same more h closed cut q =
    prints_tree E T (fix w ss bs) ns next old new is
    (prints_as _ _ old new
    (three (codes "fix ") (functions_text (length ss) ss next (parts E bs) ns next) (which_text all (length old.used.items + w))
    ∙ ap₂ (λ (n m : ℕ). codes "fix " ++ functions_text (length ss) ss next (parts E bs) ns next ++ which_text n (m + w)) e f)
    (λ i l. refl)
    (then_puts _ _ old m3 new (puts_then _ _ old m0 m3 p (prints_between next all _ m0 m1 m2 m3 g same more h closed cut)) q))
