-- The sorts into which a type eliminates (Coq Reference Manual, "Theory of inductive definitions": allowed elimination sorts).
use Rattle.std.specs.Prelude.{if◌then◌else◌, List, [], ◌∷◌}
use Rattle.cic_rules.specs.Environment.{TypeDeclaration, ConstructorDeclaration}
use Rattle.cic_rules.specs.Telescopes.{conclusion_of}
use Rattle.cic_counted.specs.Inference.{ends_in_prop}
use Rattle.cic_ind.specs.declared.eliminations.Targets.{Targets}
use Rattle.cic_ind.specs.declared.eliminations.Targets.TheVariants.{All, PropOnly, IfArgumentsProp}

-- Of a proposition by its constructors: with none it goes into every sort, with one where its arguments are propositions, with more into Prop alone.
abbrev pub targets_of_proposition : List ConstructorDeclaration → Targets
targets_of_proposition [] = All
targets_of_proposition (c ∷ []) = IfArgumentsProp
targets_of_proposition cs = PropOnly

-- A type that is no proposition goes into every sort.
abbrev pub targets : TypeDeclaration → Targets
targets t = if ends_in_prop (conclusion_of t.arity) then targets_of_proposition t.constructors else All
