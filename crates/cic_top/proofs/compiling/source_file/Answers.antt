-- The name of a source is the name of a file, so it is no bad name.
use Rattle.std.proofs.Common.{◌++◌, ap, sym, subst, ◌∙◌, codes}
use Rattle.std.specs.Prelude.{Err}
use Rattle.cic_io.specs.FileName.{IsFileName}
use Rattle.cic_top.proofs.FileNames.{source_is_file_name}
use Rattle.cic_top.proofs.compiling.source_file.Goals as goal

pub unreachable-requires : goal.unreachable-requires
unreachable-requires c =
    let name = source_is_file_name c.args.library.now (record { identifier = c.text.ensures.identifier; short = c.text.ensures.short }) in
    let is = c.as_bytes.ensures.value ∙ c.in_ok-text.ensures.ok ∙ ap (λ text. text ++ codes ".v") c.text.ensures.value in
    c.in-Err-BadName.ensures.bad.0 (ap (λ e. Err e) c.in-Err-BadName.field-0-is) (subst (λ text. IsFileName text) (sym is) name)
