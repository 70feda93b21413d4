use Rattle.std.proofs.Common.{subst}
use Rattle.cic_top.specs.calls.Sources.{DescribesContent}
use Rattle.cic_top.specs.Texts.{no_file_line, not_yet_line}
use Rattle.cic_top.proofs.Answered.{if_ok, absent-replies, long-replies}
use Rattle.cic_top.proofs.running.over_source.Goals as goal

pub refusing-requires : goal.refusing-requires
refusing-requires c = (_, no_file_line)

pub refusing-requires-in-Long : goal.refusing-requires-in-Long
refusing-requires-in-Long c = (_, not_yet_line)

pub returns-in-Absent : goal.returns-in-Absent
returns-in-Absent c =
    if_ok c.refusing.result (λ reply given bytes fits. absent-replies _ _ reply c.requires given bytes (subst (λ s. DescribesContent s bytes) c.in-Absent.is fits)) c.refusing.ensures

pub returns-in-Long : goal.returns-in-Long
returns-in-Long c =
    if_ok c.refusing-in-Long.result (λ reply given bytes fits. long-replies _ _ reply c.requires given bytes (subst (λ s. DescribesContent s bytes) c.in-Long.is fits)) c.refusing-in-Long.ensures
