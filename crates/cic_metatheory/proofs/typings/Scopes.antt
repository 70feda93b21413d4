-- A term that has a type has no free variable past its context: a substitution that keeps the variables of the context
-- keeps the term. By induction on the derivation; an argument of an inductive type stays since the type applied does,
-- and a function of a Fix stays since its type and its full body do. So what an environment shows is closed, and a
-- declared type may be lifted past any context.
use Rattle.std.proofs.Common.{◌≡◌, ℕ, zero, suc, ◌+◌, ◌<◌, List, [], ◌∷◌, ◌++◌, length, map, Some, refl, sym, ap, ap₂, ◌∙◌, arith, length-append}
use Rattle.std.proofs.lemmas.List.{length-map}
use Rattle.cic_terms.specs.Tree.{FixF, Tree, rel, node, Children, child, prod, lam, app, ind, case}
use Rattle.cic_terms.specs.Lift.{lift_tree, subst_rel, subst_tree}
use Rattle.cic_names.specs.declared.name.GlobalId.{GlobalId}
use Rattle.cic_rules.specs.Numbering.{Numbering}
use Rattle.cic_rules.specs.Environment.{Environment, Context, ConstructorDeclaration, assumed, type_at}
use Rattle.cic_rules.specs.Telescopes.{apply, products, abstractions, extend, lift_domains, Function, function_parts, function_type, function_types, full_body, full_bodies}
use Rattle.cic_rules.specs.Typing as T
use Rattle.cic_rules.specs.Typing.{Typed, Branches, AllSorted, AllTyped, function_entries, no_branch, branch, none_sorted, more_sorted, none_typed, more_typed}
use Rattle.cic_metatheory.specs.Substitution.{rename, substitution_under_one, substitution_under, substitute, substitute_children, substitute_domains, substitute_function, lifted_variable}
use Rattle.cic_metatheory.proofs.substitutions.Composition.{rename_as_substitute}
use Rattle.cic_metatheory.proofs.substitutions.LiftAndSubst.{lift_renames_variables, subst_substitutes_variables}
use Rattle.cic_metatheory.proofs.substitutions.Telescopes.{none_and_under, one_more_under, length_substitute_domains, substitute_function_parts, substitute_full_body}
use Rattle.cic_metatheory.proofs.typings.Typing.{inductive_in_two, substitute_products}
use Rattle.cic_names.proofs.ByteStrings.{heads, tails}

abbrev pub Keeps : ℕ → (ℕ → Tree) → Type 0
Keeps k s = (x : ℕ) → x < k → s x ≡ rel x

variable_within : (G : Context) (x : ℕ) (a : Tree) → type_at G x ≡ Some a → x < length G
variable_within [] x a e = grind arith
variable_within (d ∷ G) zero a e = omega arith
variable_within (d ∷ G) (suc x) a e = omega (arith, variable_within G x a e)

keeps_under_one : (k : ℕ) (s : ℕ → Tree) → Keeps k s → Keeps (suc k) (substitution_under_one s)
unfolding substitution_under_one rename
keeps_under_one k s h zero q = refl
keeps_under_one k s h (suc x) q = ap (rename suc) (h x (omega arith))

keeps_extended : (as_ : List Tree) (G : Context) (s : ℕ → Tree) → Keeps (length G) s → Keeps (length (extend G as_)) (substitution_under (length as_) s)
unfolding substitution_under
keeps_extended [] G s h = h
keeps_extended (a ∷ as_) G s h = keeps_extended as_ (assumed a ∷ G) (substitution_under_one s) (keeps_under_one (length G) s h)

keeps_functions : (ts : List Tree) (before : ℕ) (G : Context) (s : ℕ → Tree) → Keeps (length G) s → Keeps (length (function_entries before G ts)) (substitution_under (length ts) s)
unfolding substitution_under
keeps_functions [] before G s h = h
keeps_functions (t ∷ ts) before G s h = keeps_functions ts (before + 1) (assumed (lift_tree 0 before t) ∷ G) (substitution_under_one s) (keeps_under_one (length G) s h)

-- Applications with equally many arguments are equal part by part.
app_parts : (f f' u u' : Tree) → app f u ≡ app f' u' → (f ≡ f') × (u ≡ u')
app_parts f f' u u' e = (cc, cc)

apply_parts : (us us' : List Tree) (f f' : Tree) → length us ≡ length us' → apply f us ≡ apply f' us' → (f ≡ f') × (us ≡ us')
apply_parts [] [] f f' l e = (e, refl)
apply_parts [] (u ∷ us') f f' l e = absurd (omega arith)
apply_parts (u ∷ us) [] f f' l e = absurd (omega arith)
apply_parts (u ∷ us) (u' ∷ us') f f' l e =
    let r = apply_parts us us' (app f u) (app f' u') (omega arith) e in
    let p = app_parts f f' u u' r.0 in
    (p.0, ap₂ ◌∷◌ p.1 r.1)

middles_equal : (us us' vs vs' : List Tree) (u u' : Tree) → length us ≡ length us' → us ++ u ∷ vs ≡ us' ++ u' ∷ vs' → u ≡ u'
middles_equal [] [] vs vs' u u' l e = cc
middles_equal [] (w ∷ us') vs vs' u u' l e = absurd (omega arith)
middles_equal (w ∷ us) [] vs vs' u u' l e = absurd (omega arith)
middles_equal (w ∷ us) (w' ∷ us') vs vs' u u' l e = middles_equal us us' vs vs' u u' (omega arith) (tails e)

argument_stays : (id : GlobalId) (before after : List Tree) (u w : Tree) (s : ℕ → Tree) → w ≡ apply (ind id) (before ++ u ∷ after) → substitute s w ≡ w → substitute s u ≡ u
argument_stays id before after u w s e h =
    let k = inductive_in_two id before (u ∷ after) s w e in
    let l : length (map (substitute s) before ++ (substitute s u ∷ map (substitute s) after)) ≡ length (before ++ u ∷ after) =
    length-append (map (substitute s) before) (substitute s u ∷ map (substitute s) after) ∙ ap₂ ◌+◌ (length-map before (substitute s)) (ap suc (length-map after (substitute s))) ∙ sym (length-append before (u ∷ after)) in
    let r = apply_parts (map (substitute s) before ++ (substitute s u ∷ map (substitute s) after)) (before ++ u ∷ after) (ind id) (ind id) l (sym k ∙ h ∙ e) in
    middles_equal (map (substitute s) before) before (map (substitute s) after) after (substitute s u) u (length-map before (substitute s)) r.1

-- Products, and abstractions, over equally many domains
prod_parts : (a a' b b' : Tree) → prod a b ≡ prod a' b' → (a ≡ a') × (b ≡ b')
prod_parts a a' b b' e = (cc, cc)

products_parts : (as_ bs : List Tree) (t u : Tree) → length as_ ≡ length bs → products as_ t ≡ products bs u → (as_ ≡ bs) × (t ≡ u)
products_parts [] [] t u l e = (refl, e)
products_parts [] (b ∷ bs) t u l e = absurd (omega arith)
products_parts (a ∷ as_) [] t u l e = absurd (omega arith)
products_parts (a ∷ as_) (b ∷ bs) t u l e =
    let p = prod_parts a b (products as_ t) (products bs u) e in
    let r = products_parts as_ bs t u (omega arith) p.1 in
    (ap₂ ◌∷◌ p.0 r.0, r.1)

abstraction_body : (a a' b b' : Tree) → lam a b ≡ lam a' b' → b ≡ b'
abstraction_body a a' b b' e = cc

abstractions_body : (as_ bs : List Tree) (t u : Tree) → length as_ ≡ length bs → abstractions as_ t ≡ abstractions bs u → t ≡ u
abstractions_body [] [] t u l e = e
abstractions_body [] (b ∷ bs) t u l e = absurd (omega arith)
abstractions_body (a ∷ as_) [] t u l e = absurd (omega arith)
abstractions_body (a ∷ as_) (b ∷ bs) t u l e = abstractions_body as_ bs t u (omega arith) (abstraction_body a b (abstractions as_ t) (abstractions bs u) e)

-- A function whose type and full body stay
domain_of : {a a' b b' : Tree} → prod a b ≡ prod a' b' → a ≡ a'
domain_of e = cc

function_at : (k k' : ℕ) (ds ds' : List Tree) (c c' b b' : Tree) → k ≡ k' → ds ≡ ds' → c ≡ c' → b ≡ b' →
    ◌≡◌ {A = Function} (record { recursive_place = k; domains = ds; codomain = c; body = b }) (record { recursive_place = k'; domains = ds'; codomain = c'; body = b' })
function_at k k' ds ds' c c' b b' e f g h = cc

function_stays : (n : ℕ) (f : Function) (s : ℕ → Tree) → substitute s (function_type f) ≡ function_type f → substitute (substitution_under n s) (full_body n f) ≡ full_body n f → substitute_function n s f ≡ f
function_stays n f s e g =
    let p = products_parts (substitute_domains s f.domains) f.domains (substitute (substitution_under (length f.domains) s) f.codomain) f.codomain (length_substitute_domains f.domains s)
    (sym (substitute_products f.domains f.codomain s) ∙ e) in
    let q : abstractions (lift_domains 0 n f.domains) (substitute_function n s f).body ≡ abstractions (lift_domains 0 n f.domains) f.body =
    ap (λ z. abstractions (lift_domains 0 n z) (substitute_function n s f).body) (sym p.0) ∙ sym (substitute_full_body n f s) ∙ g in
    function_at f.recursive_place f.recursive_place (substitute_domains s f.domains) f.domains _ f.codomain _ f.body refl p.0 p.1
    (abstractions_body (lift_domains 0 n f.domains) (lift_domains 0 n f.domains) (substitute_function n s f).body f.body refl q)

functions_stay : (n : ℕ) (fs : List Function) (s : ℕ → Tree) → map (substitute s) (function_types fs) ≡ function_types fs → map (substitute (substitution_under n s)) (full_bodies n fs) ≡ full_bodies n fs → map (substitute_function n s) fs ≡ fs
functions_stay n [] s e g = refl
functions_stay n (f ∷ fs) s e g =
    ap₂ ◌∷◌ (function_stays n f s (heads e) (heads g)) (functions_stay n fs s (tails e) (tails g))

match_stays : (id : GlobalId) (n : ℕ) (p v : Tree) (branches : Children) (s : ℕ → Tree) → substitute (substitution_under (n + 1) s) p ≡ p → substitute s v ≡ v → substitute_children s branches ≡ branches → substitute s (case id n p v branches) ≡ case id n p v branches
unfolding substitute substitution_under
match_stays id n p v branches s e e' e'' =
    let f : substitute (substitution_under (0 + (n + 1)) s) p ≡ p = ap (λ z. substitute z p) (none_and_under (n + 1) s) ∙ e in
    cc (f, e', e'')

mutual
  unfolding substitute substitution_under

  pub typed_stays : (E : Environment) (N : Numbering) {G : Context} {t a : Tree} → Typed E N G t a → (s : ℕ → Tree) → Keeps (length G) s → substitute s t ≡ t
  typed_stays E N (T.Typed.sorts p) s h = refl
  typed_stays E N (T.Typed.variable {G = G} {x = x} {a = a} p e) s h = h x (variable_within G x a p)
  typed_stays E N (T.Typed.constant p e) s h = refl
  typed_stays E N (T.Typed.inductive_type p e) s h = refl
  typed_stays E N (T.Typed.constructor p e) s h = refl
  typed_stays E N (T.Typed.product {G = G} p q z) s h = cc (typed_stays E N p s h, typed_stays E N q (substitution_under_one s) (keeps_under_one (length G) s h))
  typed_stays E N (T.Typed.abstraction {G = G} {a = a} {t = t} p q) s h =
      ap₂ lam (domain_of (typed_stays E N p s h)) (typed_stays E N q (substitution_under_one s) (keeps_under_one (length G) s h))
  typed_stays E N (T.Typed.application p q e) s h = cc (typed_stays E N p s h, typed_stays E N q s h)
  typed_stays E N (T.Typed.local_definition {G = G} o p q e) s h = cc (typed_stays E N o s h, typed_stays E N p s h, typed_stays E N q (substitution_under_one s) (keeps_under_one (length G) s h))
  typed_stays E N (T.Typed.matching {G = G} {id = id} {n = n} {p = p} {v = v} {branches = branches} _ _ domains _ _ _ _ _ _ tv _ _ ld tp _ br _) s h =
      match_stays id n p v branches s
      (ap (λ z. substitute z p) (sym (one_more_under n s)) ∙ ap (λ m. substitute (substitution_under_one (substitution_under m s)) p) (sym ld)
      ∙ typed_stays E N tp (substitution_under_one (substitution_under (length domains) s)) (keeps_under_one (length (extend G domains)) (substitution_under (length domains) s) (keeps_extended domains G s h)))
      (typed_stays E N tv s h) (branches_stay E N br s h)
  typed_stays E N (T.Typed.fixpoint {G = G} {which = which} {shapes = shapes} fs es ep ef st bt g et) s h =
      let n : ℕ = length fs in
      let count : length (function_types fs) ≡ n = length-map fs function_type in
      ap (node (FixF which shapes))
      (ap (substitute_children s) ep ∙ substitute_function_parts fs n s
      ∙ ap (function_parts n) (functions_stay n fs s (sorted_stay E N st s h)
      (ap (λ m. map (substitute (substitution_under m s)) (full_bodies n fs)) (sym count) ∙ all_stay E N bt (substitution_under (length (function_types fs)) s) (keeps_functions (function_types fs) 0 G s h)))
      ∙ sym ep)
  typed_stays E N (T.Typed.conversion p q l) s h = typed_stays E N p s h
  typed_stays E N (T.Typed.instance {u = u} id A before after w b z d e p x y) s h = argument_stays id before after u w s e (typed_stays E N p s h)

  branches_stay : (E : Environment) (N : Numbering) {G : Context} {id : GlobalId} {qs : List Tree} {n : ℕ} {p : Tree} {cs : List ConstructorDeclaration} {ks : Children} → Branches E N G id qs n p cs ks → (s : ℕ → Tree) → Keeps (length G) s → substitute_children s ks ≡ ks
  branches_stay E N no_branch s h = refl
  branches_stay E N (branch {G = G} {t = t} {b = b} domains indices _ _ ld _ _ bt br) s h =
      ap₂ (child b) (ap (λ m. substitute (substitution_under m s) t) (sym ld) ∙ typed_stays E N bt (substitution_under (length domains) s) (keeps_extended domains G s h)) (branches_stay E N br s h)

  sorted_stay : (E : Environment) (N : Numbering) {G : Context} {ts : List Tree} → AllSorted E N G ts → (s : ℕ → Tree) → Keeps (length G) s → map (substitute s) ts ≡ ts
  sorted_stay E N none_sorted s h = refl
  sorted_stay E N (more_sorted p q) s h = ap₂ ◌∷◌ (typed_stays E N p s h) (sorted_stay E N q s h)

  all_stay : (E : Environment) (N : Numbering) {G : Context} {ts us : List Tree} → AllTyped E N G ts us → (s : ℕ → Tree) → Keeps (length G) s → map (substitute s) ts ≡ ts
  all_stay E N none_typed s h = refl
  all_stay E N (more_typed p q) s h = ap₂ ◌∷◌ (typed_stays E N p s h) (all_stay E N q s h)

pub closed_stays : (E : Environment) (N : Numbering) (t a : Tree) (s : ℕ → Tree) → Typed E N [] t a → substitute s t ≡ t
closed_stays E N t a s h = typed_stays E N h s (λ x q. absurd (omega arith))

pub closed_lifts : (E : Environment) (N : Numbering) (t a : Tree) (from by : ℕ) → Typed E N [] t a → lift_tree from by t ≡ t
closed_lifts E N t a from by h =
    lift_renames_variables from by t ∙ rename_as_substitute t (lifted_variable from by) ∙ closed_stays E N t a (λ x. rel (lifted_variable from by x)) h

pub closed_keeps_under_subst : (E : Environment) (N : Numbering) (t a : Tree) (at : ℕ) (u : Tree) → Typed E N [] t a → subst_tree at u t ≡ t
closed_keeps_under_subst E N t a at u h = subst_substitutes_variables at u t ∙ closed_stays E N t a (subst_rel at u) h

pub typed_keeps_under : (E : Environment) (N : Numbering) (G : Context) (t a : Tree) (s : ℕ → Tree) → ((x : ℕ) → x < length G → s x ≡ rel x) → Typed E N G t a → substitute s t ≡ t
typed_keeps_under E N G t a s k h = typed_stays E N h s k
