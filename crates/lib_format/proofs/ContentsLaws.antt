-- Summaries and library segments: what is spelled is read, and what is read was spelled.
use Rattle.std.proofs.Common.{◌≡◌, ℕ, suc, zero, ◌<◌, List, [], ◌∷◌, ◌++◌, length, take, drop, Bool, true, false, refl, sym, append_assoc, arith, length-append}
use Rattle.std.specs.Prelude.{◌==◌, if◌then◌else◌, nat_lt, All}
use Rattle.std.proofs.lemmas.List.{take-append-drop, length-take-le, take_at, drop_at}
use Rattle.std.proofs.lemmas.Bool.{eqb-true, lt-leb, ltb-false}
use Rattle.cic_names.specs.Orders.{digits, name_bytes}
use Rattle.seg_format.specs.declared.faults.Defect.TheVariants.{Short}
use Rattle.term_format.specs.Spelling.{constraints_bytes}
use Rattle.term_format.specs.Reading.{value, wrong}
use Rattle.term_format.proofs.Bytes.{AreBytes, drop_are_bytes, Spelled, follows, same_of, moved, both, nothing, after_byte, case_on}
use Rattle.term_format.proofs.NameLaws.{number_read, number_spelled, name_read, name_spelled}
use Rattle.term_format.proofs.ConstraintLaws.{constraints_read, constraints_spelled}
use Rattle.lib_format.specs.declared.stored.NeedFlag.{NeedFlag}
use Rattle.lib_format.specs.declared.stored.NeedFlag.TheVariants.{Plain, Import, Export}
use Rattle.lib_format.specs.declared.stored.Need.{Need}
use Rattle.lib_format.specs.declared.stored.Recorded.{Recorded}
use Rattle.lib_format.specs.Lists.{list_bytes, IsList, read_list}
use Rattle.lib_format.specs.DeclarationBytes.{declarations_bytes, IsFresh}
use Rattle.lib_format.specs.DeclarationReading.{read_new_name}
use Rattle.lib_format.specs.Contents.{IsDigest, recorded_bytes, IsRecorded, SummaryContents, summary_bytes, IsSummary, flag_byte, need_bytes, IsNeed, LibraryContents, library_bytes, IsLibrary}
use Rattle.lib_format.specs.ContentsReading.{read_digest, read_flag, read_need, read_recorded, read_summary, read_library}
use Rattle.lib_format.proofs.ListLaws.{list_read, list_spelled, four, five}
use Rattle.lib_format.proofs.DeclarationLaws.{new_name_read, new_name_spelled, declarations_read, declarations_spelled}

-- digests
pub digest_read : (digest rest : List ℕ) → IsDigest digest → read_digest (digest ++ rest) ≡ value digest rest
unfolding read_digest
digest_read digest rest h =
    let n = h.0 in
    let l : nat_lt (length (digest ++ rest)) 16 ≡ false = lt-leb (suc (length (digest ++ rest))) 16 (omega (arith, length-append digest rest, n)) in
    rw (l, take_at digest rest 16 h.0, drop_at digest rest 16 h.0) refl

take_are_bytes : (n : ℕ) (bs : List ℕ) → AreBytes bs → AreBytes (take n bs)
take_are_bytes zero bs h = tt
take_are_bytes (suc n) [] h = tt
take_are_bytes (suc n) (b ∷ bs) h = (h.0, take_are_bytes n bs h.1)

more : (b : ℕ) (bs : List ℕ) → b < 256 → All (λ b. b < 256) bs → All (λ b. b < 256) (b ∷ bs)
more b bs h hs zero d l = h
more b bs h hs (suc k) d l = hs k d (omega arith)

all_of : (bs : List ℕ) → AreBytes bs → All (λ b. b < 256) bs
all_of [] h = λ k d l. absurd (omega arith)
all_of (b ∷ bs) h = more b bs h.0 (all_of bs h.1)

pub digest_spelled : (bytes digest rest : List ℕ) → AreBytes bytes → read_digest bytes ≡ value digest rest → Spelled (IsDigest digest) digest bytes rest
unfolding read_digest
digest_spelled bytes digest rest a e = by (nat_lt (length bytes) 16) refl e
  where
    by : (t : Bool) → nat_lt (length bytes) 16 ≡ t → (if t then wrong Short 0 else value (take 16 bytes) (drop 16 bytes)) ≡ value digest rest → Spelled (IsDigest digest) digest bytes rest
    by true t e = absurd (cc)
    by false t e =
        let n : length (take 16 bytes) ≡ 16 = length-take-le 16 bytes (ltb-false (length bytes) 16 t) in
        moved IsDigest (λ d. d) (same_of e) (record { ok = (n, all_of (take 16 bytes) (take_are_bytes 16 bytes a)); is = sym (take-append-drop 16 bytes); left = drop_are_bytes 16 bytes a })

recorded_read : (r : Recorded) (rest : List ℕ) → IsRecorded r → read_recorded (recorded_bytes r ++ rest) ≡ value r rest
unfolding read_recorded
recorded_read r rest h = rw (append_assoc (name_bytes r.lib) r.digest rest, name_read r.lib (r.digest ++ rest) h.name, digest_read r.digest rest h.digest) refl

recorded_spelled : (bytes : List ℕ) (r : Recorded) (rest : List ℕ) → AreBytes bytes → read_recorded bytes ≡ value r rest → Spelled (IsRecorded r) (recorded_bytes r) bytes rest
unfolding read_recorded
recorded_spelled bytes r rest a e =
    let f = follows _ _ _ _ e in
    let g = follows _ _ _ _ f.next in
    let p = name_spelled bytes f.first f.after a f.read in
    let q = digest_spelled f.after g.first g.after p.left g.read in
    moved IsRecorded recorded_bytes (same_of g.next) (both (λ n d. record { name = n; digest = d }) p q)

-- summaries
closure_read : (rs : List Recorded) (rest : List ℕ) → IsList (λ before r. IsRecorded r) rs → read_list (λ before. read_recorded) (list_bytes (λ before r. recorded_bytes r) rs ++ rest) ≡ value rs rest
closure_read rs rest h = list_read (λ before r. recorded_bytes r) (λ before r. IsRecorded r) (λ before. read_recorded) (λ before r rest m. recorded_read r rest m) rs rest h

closure_spelled : (bytes : List ℕ) (rs : List Recorded) (rest : List ℕ) → AreBytes bytes → read_list (λ before. read_recorded) bytes ≡ value rs rest → Spelled (IsList (λ before r. IsRecorded r) rs) (list_bytes (λ before r. recorded_bytes r) rs) bytes rest
closure_spelled bytes rs rest a e = list_spelled (λ before r. recorded_bytes r) (λ before r. IsRecorded r) (λ before. read_recorded) (λ before bytes r rest a e. recorded_spelled bytes r rest a e) bytes rs rest a e

pub summary_read : (s : SummaryContents) (rest : List ℕ) → IsSummary s → read_summary (summary_bytes s ++ rest) ≡ value s rest
unfolding read_summary
summary_read s rest h =
    let x2 = list_bytes (λ before r. recorded_bytes r) s.closure in
    let x1 = digits s.budget ++ x2 in
    let x0 = s.source ++ x1 in
    rw (
      append_assoc (name_bytes s.name) x0 rest,
      name_read s.name (x0 ++ rest) h.name,
      append_assoc s.source x1 rest,
      digest_read s.source (x1 ++ rest) h.source,
      append_assoc (digits s.budget) x2 rest,
      number_read s.budget (x2 ++ rest) h.budget,
      closure_read s.closure rest h.closure,
    ) refl

pub summary_spelled : (bytes : List ℕ) (s : SummaryContents) (rest : List ℕ) → AreBytes bytes → read_summary bytes ≡ value s rest → Spelled (IsSummary s) (summary_bytes s) bytes rest
unfolding read_summary
summary_spelled bytes s rest a e =
    let f = follows _ _ _ _ e in
    let g = follows _ _ _ _ f.next in
    let k = follows _ _ _ _ g.next in
    let l = follows _ _ _ _ k.next in
    let p = name_spelled bytes f.first f.after a f.read in
    let q = digest_spelled f.after g.first g.after p.left g.read in
    let r = number_spelled g.after k.first k.after q.left k.read in
    let t = closure_spelled k.after l.first l.after r.left l.read in
    moved IsSummary summary_bytes (same_of l.next)
    (four (λ n d b c. record { name = n; source = d; budget = b; closure = c }) p q r t)

-- libraries
flag_read : (flag : NeedFlag) (rest : List ℕ) → read_flag (flag_byte flag ∷ rest) ≡ value flag rest
unfolding read_flag
flag_read Plain rest = refl
flag_read Import rest = refl
flag_read Export rest = refl

flag_spelled : (bytes : List ℕ) (flag : NeedFlag) (rest : List ℕ) → AreBytes bytes → read_flag bytes ≡ value flag rest → Spelled (Unit {0}) (flag_byte flag ∷ []) bytes rest
unfolding read_flag
flag_spelled [] flag rest a e = absurd (cc)
flag_spelled (tag ∷ more) flag rest a e =
    case_on (tag == 0) _ _ e
    (λ is e. moved (λ _. Unit {0}) (λ f. flag_byte f ∷ []) (same_of e) (after_byte tag 0 (eqb-true tag 0 is) (nothing more a.1)))
    (λ not_0 e. case_on (tag == 1) _ _ e
    (λ is e. moved (λ _. Unit {0}) (λ f. flag_byte f ∷ []) (same_of e) (after_byte tag 1 (eqb-true tag 1 is) (nothing more a.1)))
    (λ not_1 e. case_on (tag == 2) _ _ e
    (λ is e. moved (λ _. Unit {0}) (λ f. flag_byte f ∷ []) (same_of e) (after_byte tag 2 (eqb-true tag 2 is) (nothing more a.1)))
    (λ not_2 e. absurd (cc))))

need_read : (n : Need) (rest : List ℕ) → IsNeed n → read_need (need_bytes n ++ rest) ≡ value n rest
unfolding read_need
need_read n rest h = rw (flag_read n.flag (name_bytes n.lib ++ rest), name_read n.lib rest h) refl

need_spelled : (bytes : List ℕ) (n : Need) (rest : List ℕ) → AreBytes bytes → read_need bytes ≡ value n rest → Spelled (IsNeed n) (need_bytes n) bytes rest
unfolding read_need
need_spelled bytes n rest a e =
    let f = follows _ _ _ _ e in
    let g = follows _ _ _ _ f.next in
    let p = flag_spelled bytes f.first f.after a f.read in
    let q = name_spelled f.after g.first g.after p.left g.read in
    moved IsNeed need_bytes (same_of g.next) (both (λ x y. y) p q)

needs_read : (ns : List Need) (rest : List ℕ) → IsList (λ before n. IsNeed n) ns → read_list (λ before. read_need) (list_bytes (λ before n. need_bytes n) ns ++ rest) ≡ value ns rest
needs_read ns rest h = list_read (λ before n. need_bytes n) (λ before n. IsNeed n) (λ before. read_need) (λ before n rest m. need_read n rest m) ns rest h

needs_spelled : (bytes : List ℕ) (ns : List Need) (rest : List ℕ) → AreBytes bytes → read_list (λ before. read_need) bytes ≡ value ns rest → Spelled (IsList (λ before n. IsNeed n) ns) (list_bytes (λ before n. need_bytes n) ns) bytes rest
needs_spelled bytes ns rest a e = list_spelled (λ before n. need_bytes n) (λ before n. IsNeed n) (λ before. read_need) (λ before bytes n rest a e. need_spelled bytes n rest a e) bytes ns rest a e

levels_read : (ls : List (List ℕ)) (rest : List ℕ) → IsList IsFresh ls → read_list read_new_name (list_bytes (λ before l. name_bytes l) ls ++ rest) ≡ value ls rest
levels_read ls rest h = list_read (λ before l. name_bytes l) IsFresh read_new_name (λ before l rest m. new_name_read before l rest m) ls rest h

levels_spelled : (bytes : List ℕ) (ls : List (List ℕ)) (rest : List ℕ) → AreBytes bytes → read_list read_new_name bytes ≡ value ls rest → Spelled (IsList IsFresh ls) (list_bytes (λ before l. name_bytes l) ls) bytes rest
levels_spelled bytes ls rest a e = list_spelled (λ before l. name_bytes l) IsFresh read_new_name (λ before bytes l rest a e. new_name_spelled before bytes l rest a e) bytes ls rest a e

pub library_read : (c : LibraryContents) (rest : List ℕ) → IsLibrary c → read_library (library_bytes c ++ rest) ≡ value c rest
unfolding read_library
library_read c rest h =
    let x3 = declarations_bytes c.declarations ++ constraints_bytes c.visible in
    let x2 = list_bytes (λ before l. name_bytes l) c.levels in
    let x1 = list_bytes (λ before n. need_bytes n) c.needs in
    rw (
      append_assoc (name_bytes c.name) (x1 ++ (x2 ++ x3)) rest,
      name_read c.name ((x1 ++ (x2 ++ x3)) ++ rest) h.name,
      append_assoc x1 (x2 ++ x3) rest,
      needs_read c.needs ((x2 ++ x3) ++ rest) h.needs,
      append_assoc x2 x3 rest,
      levels_read c.levels (x3 ++ rest) h.levels,
      append_assoc (declarations_bytes c.declarations) (constraints_bytes c.visible) rest,
      declarations_read c.name c.declarations (constraints_bytes c.visible ++ rest) h.declarations,
      constraints_read c.visible rest h.visible,
    ) refl

pub library_spelled : (bytes : List ℕ) (c : LibraryContents) (rest : List ℕ) → AreBytes bytes → read_library bytes ≡ value c rest → Spelled (IsLibrary c) (library_bytes c) bytes rest
unfolding read_library
library_spelled bytes c rest a e =
    let f = follows _ _ _ _ e in
    let g = follows _ _ _ _ f.next in
    let k = follows _ _ _ _ g.next in
    let l = follows _ _ _ _ k.next in
    let m = follows _ _ _ _ l.next in
    let p = name_spelled bytes f.first f.after a f.read in
    let q = needs_spelled f.after g.first g.after p.left g.read in
    let r = levels_spelled g.after k.first k.after q.left k.read in
    let t = declarations_spelled f.first k.after l.first l.after r.left l.read in
    let u = constraints_spelled l.after m.first m.after t.left m.read in
    moved IsLibrary library_bytes (same_of m.next)
    (five (λ n ns ls ds cs. record { name = n; needs = ns; levels = ls; declarations = ds; visible = cs }) p q r t u)
