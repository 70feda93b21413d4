-- What `run` promises of the environment of a command that passes.
use Rattle.std.specs.Prelude.{ℕ, List, Option}
use Rattle.cic_io.specs.Files.{Files}
use Rattle.cic_io.specs.Sending.{SentAll}
use Rattle.cic_rules.specs.Environment.{Environment}
use Rattle.cic_rules.specs.Formed.{Formed}
use Rattle.cic_rules.specs.Numbering.{Numbering, IsNumbering}
use Rattle.cic_top.specs.Command.{Contents, AreContentsOf, Accepts}
use Rattle.cic_top.specs.Texts.{IsAxiomList}

-- The command accepts an environment, over some contents, those of the folder where it tells its files.
-- The environment is formed at every numbering, and the list of its axioms was sent.
pub record AcceptsFormed (words : List (List ℕ)) (told : Option Files) (old new : Option (List ℕ)) : Type 0 where
  pub E : Environment
  pub content : Contents
  pub of_folder : AreContentsOf content told
  pub accepts : Accepts words content E
  pub formed : (N : Numbering) → IsNumbering N → Formed N E
  pub output : List ℕ
  pub list : IsAxiomList E output
  pub sends : SentAll old output new
