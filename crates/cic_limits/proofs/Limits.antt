-- Terms that are made within the limits, and terms that are too deep.
use Rattle.std.proofs.Common.{◌≡◌, ◌≤◌, ℕ, Bool, true, false, List, [], ◌∷◌, Vec, refl, sym, ap, ◌∙◌, arith, nat_le, ◌&&◌}
use Rattle.std.proofs.lemmas.Bool.Decides.{nat_tests}
use Rattle.std.specs.declared.rc.Rc.{Rc}
use Rattle.std.specs.declared.alloc.Global.{Global}
use Rattle.cic_terms.specs.declared.term.Term.{Term}
use Rattle.cic_terms.specs.declared.term.TermFault.{TermFault}
use Rattle.cic_terms.specs.declared.term.TermFault.TheVariants as F
use Rattle.cic_terms.specs.Tree.{Tree}
use Rattle.cic_terms.specs.Sizes.{Fits, depth_tree, max_rel}
use Rattle.cic_rules.specs.Telescopes.{Function, full_body, lift_domains}
use Rattle.cic_counted.specs.Evaluation.{fitting_body}
use Rattle.cic_counted.specs.Outcome.{Budget, done, stops, deep, is_small, fitting, fitting_all}
use Rattle.cic_spines.specs.Lists.{shared_tree, shared_trees}
use Rattle.cic_spines.specs.Several.{AllFit}
use Rattle.cic_work.specs.Verdicts.{why, why_not}
use Rattle.cic_work.specs.calls.Counting.{StopsFor}
use Rattle.cic_work.specs.declared.stop.Stop.{Stop}

both : (m n : ℕ) → m ≤ 4000 → n ≤ 1048576 → (nat_le m 4000 && nat_le n 1048576) ≡ true
both m n h k = grind (arith, nat_tests)

each : (m n : ℕ) → (nat_le m 4000 && nat_le n 1048576) ≡ true → (m ≤ 4000) × (n ≤ 1048576)
each m n h = grind (arith, nat_tests)

pub small : (t : Tree) → Fits 4000 t → is_small t ≡ true
small t h = both (depth_tree t) (max_rel t) h.depth h.rels

fits : (t : Tree) → is_small t ≡ true → Fits 4000 t
fits t h = let p = each (depth_tree t) (max_rel t) h in record { depth = p.0; rels = p.1 }

not_small_by : (t : Tree) (s : Bool) → is_small t ≡ s → ¬ Fits 4000 t → is_small t ≡ false
not_small_by t true e h = absurd (h (fits t e))
not_small_by t false e h = e

pub not_small : (t : Tree) → ¬ Fits 4000 t → is_small t ≡ false
not_small t h = not_small_by t (is_small t) refl h

-- A term that is made is within the limits.
pub made_fits : (want : Tree) (made : Rc Term Global) (b : Budget) → shared_tree made ≡ want → Fits 4000 want → fitting want b ≡ done (shared_tree made) b
made_fits want made b e h = rw (small want h) (ap (λ t. done t b) (sym e))

too_deep : (want : Tree) (b : Budget) → ¬ Fits 4000 want → fitting want b ≡ stops deep
too_deep want b h = rw (not_small want h) refl

pub made_deep : (want : Tree) (fault : TermFault) (stop : Stop) (b : Budget) → why stop ≡ why_not fault → (fault ≡ F.Deep → ¬ Fits 4000 want) → StopsFor (why stop) (fitting want b)
made_deep want F.Deep stop b e h = rw e (too_deep want b (h refl))
made_deep want F.NoMemory stop b e h = rw e tt

-- The same of several terms.
all_within : (ts : List Tree) (b : Budget) → AllFit ts → fitting_all ts b ≡ done ts b
all_within [] b h = refl
all_within (t ∷ ts) b h = rw (small t h.0, all_within ts b h.1) refl

pub each_fits : (want : List Tree) (made : Vec (Rc Term Global) Global) (b : Budget) → shared_trees made.items ≡ want → AllFit want → fitting_all want b ≡ done (shared_trees made.items) b
each_fits want made b e h = all_within want b h ∙ ap (λ ts. done ts b) (sym e)

without_by : (t : Tree) (ts : List Tree) (s : Bool) (b : Budget) → is_small t ≡ s → (¬ AllFit ts → fitting_all ts b ≡ stops deep) → ¬ AllFit (t ∷ ts) → fitting_all (t ∷ ts) b ≡ stops deep
without_by t ts true b e later h = rw (e, later (λ all. h (fits t e, all))) refl
without_by t ts false b e later h = rw e refl

one_without : (ts : List Tree) (b : Budget) → ¬ AllFit ts → fitting_all ts b ≡ stops deep
one_without [] b h = absurd (h tt)
one_without (t ∷ ts) b h = without_by t ts (is_small t) b refl (one_without ts b) h

pub one_is_deep : (want : List Tree) (fault : TermFault) (stop : Stop) (b : Budget) → why stop ≡ why_not fault → (fault ≡ F.Deep → ¬ AllFit want) → StopsFor (why stop) (fitting_all want b)
one_is_deep want F.Deep stop b e h = rw e (one_without want b (h refl))
one_is_deep want F.NoMemory stop b e h = rw e tt

-- The full body of a function, of which the lifted domains are judged.
pub made_over : (all : ℕ) (f : Function) (made : Rc Term Global) (b : Budget) → shared_tree made ≡ full_body all f → AllFit (lift_domains 0 all f.domains) →
    fitting_body all f b ≡ done (shared_tree made) b
made_over all f made b e h = rw (all_within (lift_domains 0 all f.domains) b h) (ap (λ t. done t b) (sym e))

pub deep_over : (all : ℕ) (f : Function) (fault : TermFault) (stop : Stop) (b : Budget) → why stop ≡ why_not fault → (fault ≡ F.Deep → ¬ AllFit (lift_domains 0 all f.domains)) →
    StopsFor (why stop) (fitting_body all f b)
deep_over all f F.Deep stop b e h = rw (e, one_without (lift_domains 0 all f.domains) b (h refl)) refl
deep_over all f F.NoMemory stop b e h = rw e tt
