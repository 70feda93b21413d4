-- One list that is kept for several ids.
use Rattle.std.proofs.Common.{◌≡◌, ◌<◌, Bool, true, false, ◌||◌, if◌then◌else◌, Option, Some, List, Vec, [], ◌∷◌, ◌++◌, length, reverse, refl, sym, ap, ap₂, subst, ◌∙◌, arith}
use Rattle.std.proofs.lemmas.List.{reverse-append, reverse-reverse, length-reverse}
use Rattle.std.specs.Map.{lookup}
use Rattle.std.specs.declared.rc.Rc.{Rc}
use Rattle.std.specs.declared.alloc.Global.{Global}
use Rattle.indexmap.specs.IndexMap.{insert_entry}
use Rattle.cic_names.specs.declared.name.GlobalId.{GlobalId}
use Rattle.cic_names.specs.Sameness.{same_id}
use Rattle.section_terms.specs.Used.{is_in}
use Rattle.section_uses.specs.Kept.{Layer, layered, all_layered, names_or, layers_of, list_of}
use Rattle.section_uses.specs.declared.lists.Lists.{Lists}
use Rattle.section_uses.specs.calls.Layers.{PutsLast}
use Rattle.section_uses.proofs.Inserted.{lookup_inserted, layer_more, nothing_below}
use Rattle.section_uses.proofs.Membership.{in_both}
use Rattle.section_core.specs.Sections.{giving}
use Rattle.section_core.specs.calls.Layers.{PutsAll}

one_given : (below : List GlobalId) (names : Rc (Vec GlobalId Global) Global) (o : Option (Rc (Vec GlobalId Global) Global)) (b : Bool) →
    names_or below (if b then Some names else o) ≡ (if b || false then names.value.items else names_or below o)
one_given below names o true = refl
one_given below names o false = refl

one_put : (id : GlobalId) (names : Rc (Vec GlobalId Global) Global) (old new : List Layer) → PutsLast id names old new → PutsAll (id ∷ []) names.value.items old new
one_put id names old new p = record {
  earlier = reverse p.before;
  last = p.last;
  changed = insert_entry same_id p.last id names;
  was = ap reverse p.was ∙ reverse-append p.before (p.last ∷ []);
  is = ap reverse p.is ∙ reverse-append p.before (insert_entry same_id p.last id names ∷ []);
  gives = λ below q. ap (names_or (below q)) (lookup_inserted q id names p.last) ∙ one_given (below q) names (lookup (same_id q) p.last) (same_id q id);
}

pub puts_one : (id key : GlobalId) (names : List GlobalId) (kept : Rc (Vec GlobalId Global) Global) (old new : List Layer) → key ≡ id → kept.value.items ≡ names →
    PutsLast key kept old new → PutsAll (id ∷ []) names old new
puts_one id key names kept old new e f p =
    subst (λ (k : GlobalId). PutsAll (k ∷ []) names old new) e (subst (λ (ns : List GlobalId). PutsAll (key ∷ []) ns old new) f (one_put key kept old new p))

both_given : (names rest : List GlobalId) (a b : Bool) → (if b then names else (if a then names else rest)) ≡ (if a || b then names else rest)
both_given names rest true true = refl
both_given names rest true false = refl
both_given names rest false true = refl
both_given names rest false false = refl

pub puts_more : (xs ys zs names : List GlobalId) (a b c : List Layer) → PutsAll xs names a b → PutsAll ys names b c → zs ≡ xs ++ ys → PutsAll zs names a c
puts_more xs ys zs names a b c first second e =
    let both : second.last ∷ second.earlier ≡ first.changed ∷ first.earlier = sym second.was ∙ first.is in
    let layer : second.last ≡ first.changed = cc in
    let rest : second.earlier ≡ first.earlier = cc in
    record {
      earlier = first.earlier;
      last = first.last;
      changed = second.changed;
      was = first.was;
      is = second.is ∙ ap (λ (ls : List Layer). second.changed ∷ ls) rest;
      gives = λ below q.
          second.gives below q
          ∙ ap (λ (l : Layer). giving ys names (layered below l) q) layer
          ∙ ap (λ (ns : List GlobalId). if is_in q ys then names else ns) (first.gives below q)
          ∙ both_given names (layered below first.last q) (is_in q xs) (is_in q ys)
          ∙ ap (λ (b : Bool). if b then names else layered below first.last q) (sym (ap (is_in q) e ∙ in_both q xs ys));
    }

record IsCons (ls : List Layer) : Type 0 where
  first : Layer
  rest : List Layer
  is : ls ≡ first ∷ rest

some_cons : (ls : List Layer) → 0 < length ls → IsCons ls
some_cons [] h = absurd (omega arith)
some_cons (l ∷ ls) h = record { first = l; rest = ls; is = refl }

pub puts_none : (names : List GlobalId) (ls : List Layer) → 0 < length ls → PutsAll [] names ls ls
puts_none names ls h =
    let some : IsCons (reverse ls) = some_cons (reverse ls) (omega (arith, length-reverse ls)) in
    record { earlier = some.rest; last = some.first; changed = some.first; was = some.is; is = some.is; gives = λ below q. refl }

pub still_some : (ids names : List GlobalId) (old new : List Layer) → PutsAll ids names old new → 0 < length new
still_some ids names old new p =
    let e : length (reverse new) ≡ length (p.changed ∷ p.earlier) = ap length p.is in omega (arith, e, length-reverse new)

-- Functions that give the same everywhere are the same.
pub same_everywhere : {A B : Type 0} (f g : A → B) → ((x : A) → f x ≡ g x) → f ≡ g
same_everywhere f g h = λ j x. h x j

-- What layers give, by the last
pub last_given : (ls : List Layer) (l : Layer) (earlier : List Layer) → reverse ls ≡ l ∷ earlier →
    all_layered nothing_below ls ≡ layered (all_layered nothing_below (reverse earlier)) l
last_given ls l earlier e =
    ap (all_layered nothing_below) (sym (reverse-reverse ls) ∙ ap reverse e ∙ reverse-append (l ∷ []) earlier)
    ∙ layer_more nothing_below (reverse earlier) l

pub lists_given : (ids names : List GlobalId) (old new : Lists) → PutsAll ids names (layers_of old) (layers_of new) → list_of new ≡ giving ids names (list_of old)
lists_given ids names old new p =
    same_everywhere (list_of new) (giving ids names (list_of old)) (λ c.
    ap (λ (f : GlobalId → List GlobalId). f c) (last_given (layers_of new) p.changed p.earlier p.is)
    ∙ p.gives (all_layered nothing_below (reverse p.earlier)) c
    ∙ ap (λ (f : GlobalId → List GlobalId). giving ids names f c) (sym (last_given (layers_of old) p.last p.earlier p.was)))

-- A new layer gives nothing.
pub first_layer : (fresh lists : Lists) → layers_of fresh ≡ [] → layers_of lists ≡ layers_of fresh ++ [] ∷ [] → list_of lists ≡ (λ c. [])
first_layer fresh lists e f = ap (all_layered nothing_below) (f ∙ ap (λ (ls : List Layer). ls ++ [] ∷ []) e)

pub first_layer_is : (fresh lists : Lists) → layers_of fresh ≡ [] → layers_of lists ≡ layers_of fresh ++ [] ∷ [] → 0 < length (layers_of lists)
first_layer_is fresh lists e f =
    let one : length (layers_of lists) ≡ 1 = ap length (f ∙ ap (λ (ls : List Layer). ls ++ [] ∷ []) e) in omega (arith, one)

pub lists_given_as : (ids ids' names names' : List GlobalId) (old new : Lists) → ids' ≡ ids → names' ≡ names →
    PutsAll ids' names' (layers_of old) (layers_of new) → list_of new ≡ giving ids names (list_of old)
lists_given_as ids ids' names names' old new e f p =
    lists_given ids' names' old new p ∙ ap₂ (λ (xs ys : List GlobalId). giving xs ys (list_of old)) e f
