-- The laws as they are stated.
use Rattle.std.proofs.Common.{◌≡◌, ℕ, List, [], ◌++◌, ap, sym, ◌∙◌, append-nil}
use Rattle.term_format.specs.Reading.{Reading, value}
use Rattle.term_format.specs.calls.Laws.{Spells}
use Rattle.term_format.proofs.Bytes.{are_bytes, Spelled, Same, same_of}
use Rattle.lib_format.specs.calls.Laws.{read_declarations_are_spelled, read_lists_are_spelled, read_summaries_are_spelled, read_libraries_are_spelled, read_heads_are_spelled, declarations_have_one_spelling, summaries_have_one_spelling, libraries_have_one_spelling, declarations_end_themselves, summaries_end_themselves, libraries_end_themselves}
use Rattle.lib_format.specs.DeclarationBytes.{declarations_bytes}
use Rattle.lib_format.specs.DeclarationReading.{read_declarations}
use Rattle.lib_format.specs.Contents.{summary_bytes, library_bytes}
use Rattle.lib_format.specs.ContentsReading.{read_summary, read_library}
use Rattle.lib_format.proofs.DeclarationLaws.{declaration_spelled, declarations_read, declarations_spelled}
use Rattle.lib_format.proofs.OpaqueLaws.{head_spelled}
use Rattle.lib_format.proofs.ContentsLaws.{summary_read, summary_spelled, library_read, library_spelled}

stated : {Ok : Type 0} {s bytes rest : List ℕ} → Spelled Ok s bytes rest → Spells Ok s bytes rest
stated p = record { storable = p.ok; spelled = p.is }

pub declaration_law : read_declarations_are_spelled
declaration_law library seen index bytes d rest h e = stated (declaration_spelled library seen index bytes d rest (are_bytes bytes h) e)

pub declarations_law : read_lists_are_spelled
declarations_law library bytes ds rest h e = stated (declarations_spelled library bytes ds rest (are_bytes bytes h) e)

pub summary_law : read_summaries_are_spelled
summary_law bytes s rest h e = stated (summary_spelled bytes s rest (are_bytes bytes h) e)

pub library_law : read_libraries_are_spelled
library_law bytes c rest h e = stated (library_spelled bytes c rest (are_bytes bytes h) e)

pub head_law : read_heads_are_spelled
head_law count bytes rows bodies h e = stated (head_spelled count bytes rows bodies (are_bytes bytes h) e)

-- Two values where the spelling of one begins with that of the other.
ends : {A : Type 0} (read : List ℕ → Reading A) (a b : A) (s t more : List ℕ) → read (s ++ more) ≡ value a more → read (t ++ []) ≡ value b [] → s ++ more ≡ t → Same a b more []
ends read a b s t more ra rb e = same_of (sym ra ∙ (ap read (e ∙ sym (append-nil t)) ∙ rb))

pub declarations_differ : declarations_have_one_spelling
declarations_differ library ds es hd he e =
    (ends (read_declarations library) ds es (declarations_bytes ds) (declarations_bytes es) [] (declarations_read library ds [] hd) (declarations_read library es [] he) (append-nil (declarations_bytes ds) ∙ e)).value_is

pub summaries_differ : summaries_have_one_spelling
summaries_differ s t hs ht e = (ends read_summary s t (summary_bytes s) (summary_bytes t) [] (summary_read s [] hs) (summary_read t [] ht) (append-nil (summary_bytes s) ∙ e)).value_is

pub libraries_differ : libraries_have_one_spelling
libraries_differ c d hc hd e = (ends read_library c d (library_bytes c) (library_bytes d) [] (library_read c [] hc) (library_read d [] hd) (append-nil (library_bytes c) ∙ e)).value_is

pub declarations_stop : declarations_end_themselves
declarations_stop library ds es more hd he e =
    (ends (read_declarations library) ds es (declarations_bytes ds) (declarations_bytes es) more (declarations_read library ds more hd) (declarations_read library es [] he) e).rest_is

pub summaries_stop : summaries_end_themselves
summaries_stop s t more hs ht e = (ends read_summary s t (summary_bytes s) (summary_bytes t) more (summary_read s more hs) (summary_read t [] ht) e).rest_is

pub libraries_stop : libraries_end_themselves
libraries_stop c d more hc hd e = (ends read_library c d (library_bytes c) (library_bytes d) more (library_read c more hc) (library_read d [] hd) e).rest_is
