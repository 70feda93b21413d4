use Rattle.cic_top.specs.Compilation.{Compiles, refusal}
use Rattle.cic_top.specs.Views.{refusal_of}
use Rattle.cic_top.proofs.Answered.{if_ok, list-replies, refusal-replies}
use Rattle.cic_top.proofs.Compilations.{compiled-has_lines, refused-has_line}
use Rattle.cic_top.proofs.running.over_text.Goals as goal

pub accepting-requires : goal.accepting-requires
accepting-requires c = compiled-has_lines c.in-Ok.ensures

pub refusing-requires : goal.refusing-requires
refusing-requires c =
    let compiled : Compiles c.args.library.now c.args.text.now (refusal (refusal_of c.in-Err-Refused.refusal)) = rw c.in-Err-Refused.field-0-is at c.in-Err-Refused.ensures in
    refused-has_line compiled

pub returns-in-Ok : goal.returns-in-Ok
returns-in-Ok c = if_ok c.accepting.result (λ reply given. list-replies _ _ c.in-Ok.env reply c.in-Ok.ensures given) c.accepting.ensures

pub returns-in-Err-Refused : goal.returns-in-Err-Refused
returns-in-Err-Refused c =
    let compiled : Compiles c.args.library.now c.args.text.now (refusal (refusal_of c.in-Err-Refused.refusal)) = rw c.in-Err-Refused.field-0-is at c.in-Err-Refused.ensures in
    if_ok c.refusing.result (λ reply given. refusal-replies _ _ _ reply compiled given) c.refusing.ensures
