-- A clone of a tag, or of a tagged constraint, is equal to what it was made from.
use Rattle.std.proofs.Common.{◌≡◌, refl, ap}
use Rattle.univ_cycles.specs.declared.cycle.Tag.{Tag}
use Rattle.univ_cycles.specs.declared.cycle.Tag.TheVariants.{Levels, Visible, Proofs}
use Rattle.univ_cycles.specs.declared.cycle.Tagged.{Tagged}
use Rattle.univ_cycles.specs.contracts.cycle.TagClone.TheImpl as tags
use Rattle.univ_cycles.specs.contracts.cycle.TaggedClone.TheImpl as taggeds
use Rattle.cic_names.proofs.Clones.{constraint_clone_is}

pub tag_clone_is : (a b : Tag) → tags.is_clone-value.it a b → b ≡ a
tag_clone_is Levels Levels h = refl
tag_clone_is (Visible a) (Visible b) h = ap Visible h
tag_clone_is (Proofs a) (Proofs b) h = ap Proofs h
tag_clone_is Levels (Visible b) h = absurd h
tag_clone_is Levels (Proofs b) h = absurd h
tag_clone_is (Visible a) Levels h = absurd h
tag_clone_is (Visible a) (Proofs b) h = absurd h
tag_clone_is (Proofs a) Levels h = absurd h
tag_clone_is (Proofs a) (Visible b) h = absurd h

pub tagged_clone_is : (a b : Tagged) → taggeds.is_clone-value.it a b → b ≡ a
tagged_clone_is a b h =
    let constraint = constraint_clone_is a.constraint b.constraint h.0 in let tag = tag_clone_is a.tag b.tag h.1 in
    λ i. record { constraint = constraint i; tag = tag i }
