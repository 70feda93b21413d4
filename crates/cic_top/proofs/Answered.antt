-- What the command answers is one answer, and no fault; and what the functions that make a reply give
-- is what the command says.
use Rattle.std.proofs.Common.{◌≡◌, ℕ, ◌<◌, length, List, refl, sym, subst, ◌∙◌, ap}
use Rattle.std.specs.Prelude.{Option, Some, None, Result, Ok, Err, IfOk, string_bytes}
use Rattle.cic_io.specs.Files.{Files, file_at}
use Rattle.cic_rules.specs.Environment.{Environment}
use Rattle.cic_top.specs.CommandLine.{CommandLine, FirstNotUnderstood, source_name}
use Rattle.cic_top.specs.Refusals as R
use Rattle.cic_top.specs.Compilation.{Compiled, Compiles, environment, refusal, is_not_yet}
use Rattle.cic_top.specs.calls.Compiling.{CompilesTo}
use Rattle.cic_top.specs.calls.Sources.{DescribesContent, FoundUnder}
use Rattle.cic_top.specs.declared.source.Source.{Source}
use Rattle.gal_parser.specs.Grammar.{longest_source, too_long}
use Rattle.cic_env.specs.Environments.{items}
use Rattle.cic_env.specs.declared.environment.Env.{Env}
use Rattle.cic_top.specs.Command.{Contents, RefusesSource, is_absent, is_refused, AcceptsSource, Refuses, Accepts, IsAccepted, Answers, is_misread, refuses, accepts}
use Rattle.cic_top.specs.calls.Replying.{RepliesTo, replies_refusal, replies_environment, RepliesRefusal, RepliesList, RepliesWord}
use Rattle.cic_top.specs.Runs.{Says, UnlessFault}
use Rattle.cic_top.specs.declared.source.Source.TheVariants.{Absent}
use Rattle.cic_top.specs.Views.{answer_of}
use Rattle.cic_top.specs.declared.running.Reply.{Reply}
use Rattle.cic_top.proofs.Unambiguous.{one_library, no_command_line-misread, one_word, one_compilation}

-- A refusal, and a list of axioms, as the reply on a library.
pub reply-refusal : (library : List ℕ) (bytes : Option (List ℕ)) (r : R.Refusal) (reply : Reply) → RefusesSource library bytes r →
    RepliesRefusal r reply → RepliesTo library bytes (answer_of reply.answer) (string_bytes reply.output)
reply-refusal library bytes r reply is_so given =
    subst (λ a. RepliesTo library bytes a (string_bytes reply.output)) (sym given.answer) (replies_refusal is_so given.line)

pub reply-list : (library : List ℕ) (bytes : Option (List ℕ)) (E : Environment) (reply : Reply) → AcceptsSource library bytes E →
    RepliesList E reply → RepliesTo library bytes (answer_of reply.answer) (string_bytes reply.output)
reply-list library bytes E reply is_so given =
    subst (λ a. RepliesTo library bytes a (string_bytes reply.output)) (sym given.answer) (replies_environment is_so given.list)

-- What the reply on a library says is what the command says.
pub library-answers : {words : List (List ℕ)} {library : List ℕ} {content : Contents} {a : R.Answer} {output : List ℕ} →
    CommandLine words library → RepliesTo library (content (source_name library)) a output → Answers words content a output
library-answers line (replies_refusal is_so text) = refuses (record { library = _; command = line; source = is_so }) text
library-answers line (replies_environment is_so text) = accepts (record { library = _; command = line; source = is_so }) text

pub word-answers : (words : List (List ℕ)) (content : Contents) (k : ℕ) (reply : Reply) → FirstNotUnderstood words k → RepliesWord k reply →
    Answers words content (answer_of reply.answer) (string_bytes reply.output)
word-answers words content k reply misread given =
    subst (λ a. Answers words content a (string_bytes reply.output)) (sym given.answer) (is_misread misread given.line)

-- An answer of the command is no fault.
pub no_read_fault : {words : List (List ℕ)} {content : Contents} {output : List ℕ} {P : Type 0} → {a : R.Answer} → Answers words content a output → a ≡ R.read_fault → P
no_read_fault (is_misread m t) e = absurd (cc)
no_read_fault (refuses m t) e = absurd (cc)
no_read_fault (accepts m t) e = absurd (cc)

pub no_sink_fault : {words : List (List ℕ)} {content : Contents} {output : List ℕ} {P : Type 0} → {a : R.Answer} → Answers words content a output → a ≡ R.sink_fault → P
no_sink_fault (is_misread m t) e = absurd (cc)
no_sink_fault (refuses m t) e = absurd (cc)
no_sink_fault (accepts m t) e = absurd (cc)

pub no_memory_fault : {words : List (List ℕ)} {content : Contents} {output : List ℕ} {P : Type 0} → {a : R.Answer} → Answers words content a output → a ≡ R.no_memory → P
no_memory_fault (is_misread m t) e = absurd (cc)
no_memory_fault (refuses m t) e = absurd (cc)
no_memory_fault (accepts m t) e = absurd (cc)

pub unless_fault : {words : List (List ℕ)} {content : Contents} {output : List ℕ} {P : Type 0} {a : R.Answer} → Answers words content a output → P → UnlessFault a P
unless_fault (is_misread m t) p = p
unless_fault (refuses m t) p = p
unless_fault (accepts m t) p = p

-- What an answer tells of words and files.
pub answered-word : {words : List (List ℕ)} {content : Contents} {output : List ℕ} {a : R.Answer} → Answers words content a output →
    (k : ℕ) → a ≡ R.not_understood k → FirstNotUnderstood words k
answered-word (is_misread {k = j} m t) k e = let same : j ≡ k = cc in subst (FirstNotUnderstood _) same m
answered-word (refuses m t) k e = absurd (cc)
answered-word (accepts m t) k e = absurd (cc)

pub answered-refusal : {words : List (List ℕ)} {content : Contents} {output : List ℕ} {a : R.Answer} → Answers words content a output →
    (r : R.Refusal) → a ≡ R.refused r → Refuses words content r
answered-refusal (is_misread m t) r e = absurd (cc)
answered-refusal (refuses {r = s} m t) r e = let same : s ≡ r = cc in subst (Refuses _ _) same m
answered-refusal (accepts m t) r e = absurd (cc)

pub answered-pass : {words : List (List ℕ)} {content : Contents} {output : List ℕ} {a : R.Answer} → Answers words content a output →
    a ≡ R.passed → IsAccepted words content
answered-pass (is_misread m t) e = absurd (cc)
answered-pass (refuses m t) e = absurd (cc)
answered-pass (accepts {E = E} m t) e = (E, m)

-- The command has one answer.
some-one : {A : Type 0} (x y : A) → Some x ≡ Some y → x ≡ y
some-one x y e = cc

refusal-one : {r s : R.Refusal} → refusal r ≡ refusal s → r ≡ s
refusal-one e = cc

environment-apart : {r : R.Refusal} {E : Environment} → refusal r ≡ environment E → ⊥
environment-apart {r = r} {E = E} e = let P : Compiled → Type 0 = elim [ environment F ↦ ⊥ | refusal s ↦ Unit {0} ] in subst P e tt

none-apart : {A : Type 0} {x : A} → None ≡ Some x → ⊥
none-apart {A = A} {x = x} e = let P : Option A → Type 0 = elim [ None ↦ Unit {0} | Some y ↦ ⊥ ] in subst P e tt

one_at : {library t u : List ℕ} {c d : Compiled} → Some t ≡ Some u → Compiles library t c → Compiles library u d → c ≡ d
one_at {library = library} {t = t} {u = u} {c = c} e x y = one_compilation (subst (λ text. Compiles library text c) (some-one t u e) x) y

source-one : {library : List ℕ} {bytes : Option (List ℕ)} {r s : R.Refusal} → RefusesSource library bytes r → RefusesSource library bytes s → r ≡ s
source-one (is_absent e) (is_absent f) = refl
source-one (is_absent e) (is_refused f d) = absurd (none-apart (sym e ∙ f))
source-one (is_refused e c) (is_absent f) = absurd (none-apart (sym f ∙ e))
source-one (is_refused e c) (is_refused f d) =
    refusal-one (one_at (sym e ∙ f) c d)

source-both : {library : List ℕ} {bytes : Option (List ℕ)} {r : R.Refusal} {E : Environment} → RefusesSource library bytes r → AcceptsSource library bytes E → ⊥
source-both (is_absent e) good = none-apart (sym e ∙ good.is)
source-both (is_refused e c) good =
    environment-apart (one_at (sym e ∙ good.is) c good.compiles)

pub word-is_answered : {words : List (List ℕ)} {content : Contents} {output : List ℕ} {a : R.Answer} → Answers words content a output →
    (k : ℕ) → FirstNotUnderstood words k → a ≡ R.not_understood k
word-is_answered (is_misread m t) k first = ap R.not_understood (one_word m first)
word-is_answered (refuses m t) k first = absurd (no_command_line-misread first m.command)
word-is_answered (accepts m t) k first = absurd (no_command_line-misread first m.command)

pub refusal-is_answered : {words : List (List ℕ)} {content : Contents} {output : List ℕ} {a : R.Answer} → Answers words content a output →
    (r : R.Refusal) → Refuses words content r → a ≡ R.refused r
refusal-is_answered (is_misread m t) r why = absurd (no_command_line-misread m why.command)
refusal-is_answered {content = content} (refuses {r = s} m t) r why =
    ap R.refused (source-one (subst (λ library. RefusesSource library (content (source_name library)) s) (one_library m.command why.command) m.source) why.source)
refusal-is_answered {content = content} (accepts {E = E} m t) r why =
    absurd (source-both why.source (subst (λ library. AcceptsSource library (content (source_name library)) E) (one_library m.command why.command) m.source))

pub pass-is_answered : {words : List (List ℕ)} {content : Contents} {output : List ℕ} {a : R.Answer} → Answers words content a output →
    (E : Environment) → Accepts words content E → a ≡ R.passed
pass-is_answered (is_misread m t) E why = absurd (no_command_line-misread m why.command)
pass-is_answered {content = content} (refuses {r = s} m t) E why =
    absurd (source-both (subst (λ library. RefusesSource library (content (source_name library)) s) (one_library m.command why.command) m.source) why.source)
pass-is_answered (accepts m t) E why = refl

-- A fact of the value in an Ok that follows from another.
pub if_ok : {A B : Type 0} (r : Result A B) {P Q : A → Type 0} → ((x : A) → P x → Q x) → IfOk r P → IfOk r Q
if_ok (Ok x) f h = f x h
if_ok (Err e) f h = tt

-- The replies on a text, by what it is compiled to.
pub list-replies : (library source : List ℕ) (env : Env) (reply : Reply) → CompilesTo library source (Ok env) → RepliesList (items env) reply →
    RepliesTo library (Some source) (answer_of reply.answer) (string_bytes reply.output)
list-replies library source env reply compiled given = reply-list library (Some source) (items env) reply (record { source = source; is = refl; compiles = compiled }) given

pub refusal-replies : (library source : List ℕ) (r : R.Refusal) (reply : Reply) → Compiles library source (refusal r) → RepliesRefusal r reply →
    RepliesTo library (Some source) (answer_of reply.answer) (string_bytes reply.output)
refusal-replies library source r reply compiled given = reply-refusal library (Some source) r reply (is_refused refl compiled) given

-- The replies on what was found as a source.
pub absent-replies : (library name : List ℕ) (reply : Reply) → name ≡ source_name library → RepliesRefusal (R.no_file name) reply →
    (bytes : Option (List ℕ)) → DescribesContent Absent bytes → RepliesTo library bytes (answer_of reply.answer) (string_bytes reply.output)
absent-replies library name reply named given bytes fits =
    reply-refusal library bytes (R.no_file (source_name library)) reply (is_absent fits) (subst (λ n. RepliesRefusal (R.no_file n) reply) named given)

pub long-replies : (library name : List ℕ) (reply : Reply) → name ≡ source_name library → RepliesRefusal (R.not_yet name longest_source) reply →
    (bytes : Option (List ℕ)) → (long : List ℕ) × (bytes ≡ Some long) × (longest_source < length long) → RepliesTo library bytes (answer_of reply.answer) (string_bytes reply.output)
long-replies library name reply named given bytes fits =
    reply-refusal library bytes (R.not_yet (source_name library) longest_source) reply (is_refused fits.1 (is_not_yet (too_long fits.2 refl)))
    (subst (λ n. RepliesRefusal (R.not_yet n longest_source) reply) named given)

pub text-replies : (library text : List ℕ) (reply : Reply) → RepliesTo library (Some text) (answer_of reply.answer) (string_bytes reply.output) →
    (bytes : Option (List ℕ)) → bytes ≡ Some text → RepliesTo library bytes (answer_of reply.answer) (string_bytes reply.output)
text-replies library text reply given bytes is_so = subst (λ b. RepliesTo library b (answer_of reply.answer) (string_bytes reply.output)) (sym is_so) given

-- The replies to a command line, over what a folder holds.
pub misread-says : (words : List (List ℕ)) (told : Option Files) (k : ℕ) (reply : Reply) → FirstNotUnderstood words k → RepliesWord k reply →
    Says words told (answer_of reply.answer) (string_bytes reply.output)
misread-says words None k reply misread given = record { content = λ _. None; of_folder = tt; answers = word-answers words (λ _. None) k reply misread given }
misread-says words (Some fs) k reply misread given = record { content = file_at fs; of_folder = refl; answers = word-answers words (file_at fs) k reply misread given }

pub source-says : (words : List (List ℕ)) (told : Option Files) (library name file : List ℕ) (source : Source) (reply : Reply) → CommandLine words library →
    name ≡ source_name library → file ≡ name → FoundUnder told file source →
    ((bytes : Option (List ℕ)) → DescribesContent source bytes → RepliesTo library bytes (answer_of reply.answer) (string_bytes reply.output)) →
    Says words told (answer_of reply.answer) (string_bytes reply.output)
source-says words told library name file source reply line named filed found given = record {
  content = found.content;
  of_folder = found.of_folder;
  answers = library-answers line (given (found.content (source_name library)) (subst (λ n. DescribesContent source (found.content n)) (filed ∙ named) found.describes));
}
