-- A table after one more hypothesis.
use Rattle.std.proofs.Common.{◌≡◌, ℕ, ◌+◌, ◌-◌, ◌≤◌, ◌&&◌, Bool, true, false, cond, if◌then◌else◌, Option, Some, None, List, [], ◌∷◌, ◌++◌, map, take, refl, sym, ap, subst, ◌∙◌, true≢false, arith}
use Rattle.std.specs.Map.{lookup}
use Rattle.std.proofs.lemmas.Bool.Decides.{nat_tests}
use Rattle.std.specs.declared.rc.Rc.{Rc}
use Rattle.std.specs.declared.alloc.Global.{Global}
use Rattle.indexmap.specs.IndexMap.{insert_entry}
use Rattle.cic_names.specs.declared.name.GlobalId.{GlobalId}
use Rattle.cic_names.specs.Sameness.{same_id}
use Rattle.cic_terms.specs.Tree.{Tree, rel, const}
use Rattle.cic_terms.specs.Lift.{lift_tree}
use Rattle.cic_terms.specs.Sizes.{Fits}
use Rattle.section_terms.specs.Hypotheses.{Hypothesis}
use Rattle.section_terms.specs.calls.Standing.{Passed, nothing_passed, pass, pass_all, pass_bound, pass_body, passed_body, put}
use Rattle.section_terms.proofs.Replacing.{lift_none, lift_within_lift}
use Rattle.section_uses.proofs.Inserted.{lookup_inserted, same_id_turned}
use Rattle.section_uses.specs.Kept.{hypothesis, list_of, shared_tree}
use Rattle.section_uses.specs.declared.hypothesis.Hypothesis.{Hypothesis as Kept}
use Rattle.section_uses.specs.declared.lists.Lists.{Lists}
use Rattle.section_discharge.specs.declared.table.Standing.{Standing}
use Rattle.section_discharge.specs.declared.table.Standing.TheVariants.{Variable, Body, Deep}
use Rattle.section_discharge.specs.declared.table.Table.{Table}
use Rattle.section_discharge.specs.calls.Tables.{StandsFor, IsRight, IsTable, IsNext, Passes, IsBound, state_of, arguments_of}
use Rattle.section_discharge.proofs.Limits.{fits_unlifted}

-- States
pass_all_more : (arguments : GlobalId → List GlobalId) (keeps : Bool) (hs : List Hypothesis) (h : Hypothesis) (e : Passed) →
    pass_all arguments keeps (hs ++ h ∷ []) e ≡ pass arguments keeps h (pass_all arguments keeps hs e)
pass_all_more arguments keeps [] h e = refl
pass_all_more arguments keeps (x ∷ hs) h e = pass_all_more arguments keeps hs h (pass arguments keeps x e)

map_more : (hs : List Kept) (h : Kept) → map hypothesis (hs ++ h ∷ []) ≡ map hypothesis hs ++ hypothesis h ∷ []
map_more [] h = refl
map_more (x ∷ hs) h = ap (λ (l : List Hypothesis). hypothesis x ∷ l) (map_more hs h)

one_more : (args args' : Lists) (keeps keeps' : Bool) (all all' : List Kept) (n n' : ℕ) (h : Kept) →
    args' ≡ args → keeps' ≡ keeps → all' ≡ all → n' ≡ n + 1 → take (n + 1) all ≡ take n all ++ h ∷ [] →
    pass_all (list_of args') keeps' (map hypothesis (take n' all')) nothing_passed ≡ pass (list_of args) keeps (hypothesis h) (pass_all (list_of args) keeps (map hypothesis (take n all)) nothing_passed)
one_more args args' keeps keeps' all all' n n' h a k l m next =
    rw (a, k, l, m) (ap (λ (hs : List Kept). pass_all (list_of args) keeps (map hypothesis hs) nothing_passed) next
    ∙ ap (λ (hs : List Hypothesis). pass_all (list_of args) keeps hs nothing_passed) (map_more (take n all) h)
    ∙ pass_all_more (list_of args) keeps (map hypothesis (take n all)) (hypothesis h) nothing_passed)

pub state_after : (t after : Table) (h : Kept) → IsNext t h → after.arguments.now ≡ t.arguments.now → after.keeps ≡ t.keeps → after.all.now ≡ t.all.now → after.count ≡ t.count + 1 →
    state_of after ≡ pass (arguments_of t) t.keeps (hypothesis h) (state_of t)
state_after t after h next a k l m =
    one_more t.arguments.now after.arguments.now t.keeps after.keeps t.all.now after.all.now t.count after.count h a k l m next.taken

passed_bound : (arguments : GlobalId → List GlobalId) (keeps : Bool) (h : Hypothesis) (e : Passed) → IsBound keeps h → pass arguments keeps h e ≡ pass_bound h.id e
passed_bound arguments true h e b = go h.body
  where
    go : (o : Option Tree) → passed_body arguments true h.id o e ≡ pass_bound h.id e
    go None = refl
    go (Some t) = refl
passed_bound arguments false h e b = ap (λ (o : Option Tree). passed_body arguments false h.id o e) b

-- Entries under one binder more
raised_rel : (n : ℕ) → lift_tree 0 1 (rel n) ≡ rel (n + 1)
raised_rel n = grind (arith, nat_tests)

raised_variable : (level binders : ℕ) → level ≤ binders → lift_tree 0 1 (rel (binders - level)) ≡ rel (binders + 1 - level)
raised_variable level binders le = let e : binders + 1 - level ≡ binders - level + 1 = omega arith in rw e (raised_rel (binders - level))

raised_body : (level binders : ℕ) (t : Tree) → level ≤ binders → lift_tree 0 1 (lift_tree 0 (binders - level) t) ≡ lift_tree 0 (binders + 1 - level) t
raised_body level binders t le =
    let e : binders + 1 - level ≡ binders - level + 1 = omega arith in
    rw e (lift_within_lift 0 (binders - level) 0 1 t (omega arith) (omega arith))

stands_raised : (binders : ℕ) (s : Standing) (t : Tree) → StandsFor binders s t → StandsFor (binders + 1) s (lift_tree 0 1 t)
stands_raised binders (Variable level) t h = (omega (arith, h.0), ap (lift_tree 0 1) h.1 ∙ raised_variable level binders h.0)
stands_raised binders (Body level body) t h = (omega (arith, h.0), ap (lift_tree 0 1) h.1 ∙ raised_body level binders (shared_tree body) h.0)
stands_raised binders Deep t h = λ fits. h (fits_unlifted 4000 0 1 t fits)

right_raised : (binders : ℕ) (q : GlobalId) (o : Option Standing) (t : Tree) → IsRight binders q o t → IsRight (binders + 1) q o (lift_tree 0 1 t)
right_raised binders q None t h = ap (lift_tree 0 1) h
right_raised binders q (Some s) t h = stands_raised binders s t h

right_bound : (binders : ℕ) (q : GlobalId) (b : Bool) (o : Option Standing) (t : Tree) → IsRight binders q o t →
    IsRight (binders + 1) q (if b then Some (Variable (binders + 1)) else o) (if b then rel 0 else lift_tree 0 1 t)
right_bound binders q true o t h = (omega arith, let e : binders + 1 - (binders + 1) ≡ 0 = omega arith in ap (λ n. rel n) (sym e))
right_bound binders q false o t h = right_raised binders q o t h

right_body : (binders : ℕ) (q : GlobalId) (b : Bool) (s : Standing) (o : Option Standing) (new t : Tree) → StandsFor binders s new → IsRight binders q o t →
    IsRight binders q (if b then Some s else o) (if b then new else t)
right_body binders q true s o new t h k = h
right_body binders q false s o new t h k = k

-- The table after a binder
pub bound_passed : (t after : Table) (h : Kept) (key : GlobalId) → IsTable t → IsNext t h → IsBound t.keeps (hypothesis h) → key ≡ h.id →
    after.standing.entries ≡ insert_entry same_id t.standing.entries key (Variable (t.binders + 1)) → after.binders ≡ t.binders + 1 →
    after.arguments.now ≡ t.arguments.now → after.keeps ≡ t.keeps → after.all.now ≡ t.all.now → after.count ≡ t.count + 1 → Passes t after
bound_passed t after h key table next bound same entries binders a k l m =
    let state : state_of after ≡ pass_bound h.id (state_of t) = state_after t after h next a k l m ∙ passed_bound (arguments_of t) t.keeps (hypothesis h) (state_of t) bound in
    record {
      table = record {
        binders = binders ∙ ap (λ n. n + 1) table.binders ∙ ap (λ (e : Passed). e.binders) (sym state);
        right = λ q.
            rw (binders, entries, state, lookup_inserted q key (Variable (t.binders + 1)) t.standing.entries, same, same_id_turned q h.id)
            (right_bound t.binders q (same_id h.id q) (lookup (same_id q) t.standing.entries) ((state_of t).stands q) (table.right q));
      };
      all = l;
      arguments = a;
      keeps = k;
      count = m;
    }

pub body_passed : (t after : Table) (h : Kept) (key : GlobalId) (body : Tree) (s : Standing) → IsTable t → IsNext t h → t.keeps ≡ false → (hypothesis h).body ≡ Some body → key ≡ h.id →
    StandsFor t.binders s (put (arguments_of t) (state_of t) 0 body) →
    after.standing.entries ≡ insert_entry same_id t.standing.entries key s → after.binders ≡ t.binders →
    after.arguments.now ≡ t.arguments.now → after.keeps ≡ t.keeps → after.all.now ≡ t.all.now → after.count ≡ t.count + 1 → Passes t after
body_passed t after h key body s table next keeps is same stands entries binders a k l m =
    let state : state_of after ≡ pass_body (arguments_of t) h.id body (state_of t) =
    state_after t after h next a k l m
    ∙ ap (λ (b : Bool). passed_body (arguments_of t) b h.id (hypothesis h).body (state_of t)) keeps
    ∙ ap (λ (o : Option Tree). passed_body (arguments_of t) false h.id o (state_of t)) is in
    record {
      table = record {
        binders = binders ∙ table.binders ∙ ap (λ (e : Passed). e.binders) (sym state);
        right = λ q.
            rw (binders, entries, state, lookup_inserted q key s t.standing.entries, same, same_id_turned q h.id)
            (right_body t.binders q (same_id h.id q) s (lookup (same_id q) t.standing.entries) (put (arguments_of t) (state_of t) 0 body) ((state_of t).stands q) stands (table.right q));
      };
      all = l;
      arguments = a;
      keeps = k;
      count = m;
    }
