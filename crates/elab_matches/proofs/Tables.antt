-- Where branches stand, and tables of it.
use Rattle.std.proofs.Common.{◌≡◌, ℕ, zero, suc, ◌<◌, List, [], ◌∷◌, ◌++◌, map, length, get_or, set, Bool, true, false, nat_eq, refl, sym, ap, ◌∙◌, eqb-true, get_or-set_same, get_or-set_other}
use Rattle.std.specs.Prelude.{Option, Some, None, if◌then◌else◌, slice_get, replicate}
use Rattle.std.specs.Option.{option_map, option_and_then}
use Rattle.std.proofs.lemmas.Bool.{eqb-false}
use Rattle.elab_matches.specs.declared.branches.ReadBranch.{ReadBranch}
use Rattle.elab_matches.specs.calls.Tables.{index_of, entry, IsTableOf, noted_at, Notes, SameEntries}
use Rattle.elab_matches.specs.calls.Branches.{known_branch, branch_of}

more_here : (b : Bool) → (if b then Some 0 else option_map suc None) ≡ noted_at b None 0
more_here true = refl
more_here false = refl

more_behind : (c d : Bool) (o : Option ℕ) (n : ℕ) → (if c then Some 0 else option_map suc (noted_at d o n)) ≡ noted_at d (if c then Some 0 else option_map suc o) (suc n)
more_behind true true o n = refl
more_behind true false o n = refl
more_behind false true None n = refl
more_behind false true (Some m) n = refl
more_behind false false o n = refl

index_more : (bs : List ReadBranch) (b : ReadBranch) (at : ℕ) → index_of (bs ++ b ∷ []) at ≡ noted_at (nat_eq at b.place) (index_of bs at) (length bs)
index_more [] b at = more_here (nat_eq at b.place)
index_more (x ∷ bs) b at =
    ap (λ (o : Option ℕ). if nat_eq at x.place then Some 0 else option_map suc o) (index_more bs b at)
    ∙ more_behind (nat_eq at x.place) (nat_eq at b.place) (index_of bs at) (length bs)

-- One branch more, with its index in the table.
table_more : (bs : List ReadBranch) (b : ReadBranch) (old grown after : List (Option ℕ)) → IsTableOf bs old → SameEntries old grown → Notes grown b.place (length bs) after → IsTableOf (bs ++ b ∷ []) after
table_more bs b old grown after is same notes at =
    notes at ∙ ap (λ (o : Option ℕ). noted_at (nat_eq at b.place) o (length bs)) (same at ∙ is at) ∙ sym (index_more bs b at)

pub pushed : (bs items : List ReadBranch) (b : ReadBranch) (n : ℕ) (old grown after : List (Option ℕ)) → items ≡ bs ++ b ∷ [] → n ≡ length bs →
    IsTableOf bs old → SameEntries old grown → Notes grown b.place n after → IsTableOf items after
pushed bs items b n old grown after e f is same notes at =
    table_more bs b old grown after is same (λ p. notes p ∙ ap (λ m. noted_at (nat_eq p b.place) (entry grown p) m) f) at
    ∙ sym (ap (λ (l : List ReadBranch). index_of l at) e)

-- A write where there is no entry.
noted_at_place : (t : List (Option ℕ)) (p i at : ℕ) (b : Bool) → p < length t → get_or t p None ≡ None → nat_eq at p ≡ b → get_or (set t p (Some i)) at None ≡ noted_at b (get_or t at None) i
noted_at_place t p i at true h e k =
    let s : at ≡ p = eqb-true at p k in
    ap (λ n. get_or (set t p (Some i)) n None) s ∙ get_or-set_same t p (Some i) None h
    ∙ sym (ap (λ (o : Option ℕ). noted_at true o i) (ap (λ n. get_or t n None) s ∙ e))
noted_at_place t p i at false h e k = get_or-set_other t p at (Some i) None (eqb-false at p k)

pub noted : (t : List (Option ℕ)) (p i : ℕ) → p < length t → get_or t p None ≡ None → Notes t p i (set t p (Some i))
noted t p i h e at = noted_at_place t p i at _ h e refl

-- Nothing is written where there is an entry.
kept_at_place : (t : List (Option ℕ)) (p i j at : ℕ) (b : Bool) → get_or t p None ≡ Some j → nat_eq at p ≡ b → get_or t at None ≡ noted_at b (get_or t at None) i
kept_at_place t p i j at true e k =
    let s : at ≡ p = eqb-true at p k in
    let h : get_or t at None ≡ Some j = ap (λ n. get_or t n None) s ∙ e in
    h ∙ sym (ap (λ (o : Option ℕ). noted_at true o i) h)
kept_at_place t p i j at false e k = refl

pub kept : (t : List (Option ℕ)) (p i j : ℕ) → get_or t p None ≡ Some j → Notes t p i t
kept t p i j e at = kept_at_place t p i j at _ e refl

-- Entries without an index behind a table.
none_in : (n at : ℕ) → get_or (replicate n None) at None ≡ (let o : Option ℕ = None in o)
none_in zero at = refl
none_in (suc n) zero = refl
none_in (suc n) (suc at) = none_in n at

pub none_behind : (t : List (Option ℕ)) (n : ℕ) → SameEntries t (t ++ replicate n None)
none_behind [] n at = none_in n at
none_behind (x ∷ t) n zero = refl
none_behind (x ∷ t) n (suc at) = none_behind t n at

-- A branch is looked up by its index.
found_at : (c : Bool) (b : ReadBranch) (bs : List ReadBranch) (place : ℕ) (o : Option ℕ) →
    branch_of (map known_branch bs) place ≡ option_and_then (λ i. option_map known_branch (slice_get bs i)) o →
    (if c then Some (known_branch b) else branch_of (map known_branch bs) place)
    ≡ option_and_then (λ i. option_map known_branch (slice_get (b ∷ bs) i)) (if c then Some 0 else option_map suc o)
found_at true b bs place o h = refl
found_at false b bs place None h = h
found_at false b bs place (Some i) h = h

pub found_by : (bs : List ReadBranch) (place : ℕ) → branch_of (map known_branch bs) place ≡ option_and_then (λ i. option_map known_branch (slice_get bs i)) (index_of bs place)
found_by [] place = refl
found_by (b ∷ bs) place = found_at (nat_eq place b.place) b bs place (index_of bs place) (found_by bs place)
