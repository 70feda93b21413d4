use Rattle.std.proofs.Common.{◌≡◌, ◌↔◌, Bool, true, false, true≢false, refl, sym}
use Rattle.std.specs.Prelude.{IsTrue}
use Rattle.cic_terms.specs.Denotes.{tree}
use Rattle.cic_counted.proofs.Decided.{same_tree_decides}
use Rattle.typing_parts.proofs.readings.is_same.Goals as goal

same_test : {A : Type 0} (p q : Bool) → (IsTrue p ↔ A) → ((q ≡ true) ↔ A) → p ≡ q
same_test true q f g = sym (g.1 (f.0 refl))
same_test false false f g = refl
same_test false true f g = absurd (true≢false (sym (f.1 (g.0 refl))))

pub returns : goal.returns
returns c = same_test c.same.result _ c.same.ensures (same_tree_decides (tree c.args.a.now) (tree c.args.b.now))
