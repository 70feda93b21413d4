-- The laws.
use Rattle.std.proofs.Common.{◌≡◌, ℕ, ◌+◌, Bool, false, if◌then◌else◌, is_none, Option, Some, None, option_map, List, [], ◌∷◌, ◌++◌, map, length, refl, sym, ap, ap₂, ◌∙◌, arith}
use Rattle.std.proofs.lemmas.List.{append-nil, map-append, length-append}
use Rattle.std.proofs.lemmas.List.Elements.{filter-append}
use Rattle.cic_names.specs.declared.name.GlobalId.{GlobalId}
use Rattle.cic_terms.specs.Tree.{Tree, prod, lam}
use Rattle.cic_rules.specs.Environment.{ConstructorDeclaration, TypeDeclaration, Declaration, axiom_of, transparent, opaque, inductive, declared_ids}
use Rattle.section_terms.specs.Names.{names_in}
use Rattle.section_terms.specs.Hypotheses.{Hypothesis, ids_of, without_lets}
use Rattle.section_terms.specs.Used.{is_in, with_those_of, names_in_body, names_in_hypothesis, names_in_hypotheses, used, statement_names, body_names}
use Rattle.section_terms.specs.Discharge.{applied, hypotheses_applied, over_part, over_block_part, generalised_type, generalised_body, generalised_part, generalised_constructor, generalised_type_declaration, generalised}
use Rattle.section_terms.specs.Laws.{HaveNoArguments, AreFresh, joined}
use Rattle.section_terms.proofs.Keeping.{first_names, last_names, kept as kept_tree, kept_as_it_is}
use Rattle.section_terms.proofs.Inner.{applied_twice, types_inner_then_outer, bodies_inner_then_outer, parts_inner_then_outer}
use Rattle.section_core.specs.Sections.{Allowed, free, statement, Entry, added, Known, know, giving, used_by, kept}
use Rattle.section_core.specs.Laws.{NameNone}

abbrev Arguments : Type 0
Arguments = GlobalId → List GlobalId

-- Names of no hypothesis use none.
used_none : (over : Arguments) (hs : List Hypothesis) (names : List GlobalId) → NameNone over hs names → used over hs names ≡ []
used_none over [] names none = refl
used_none over (h ∷ later) names none =
    let step : List Hypothesis → List Hypothesis = λ us. if is_in h.id (with_those_of over (names ++ names_in_hypotheses us)) then h ∷ us else us in
    let test : is_in h.id (with_those_of over (names ++ [])) ≡ false = ap (λ (ns : List GlobalId). is_in h.id (with_those_of over ns)) (append-nil names) ∙ none.0 in
    let choice : Bool → List Hypothesis = λ b. if b then h ∷ [] else [] in
    ap step (used_none over later names none.1) ∙ ap choice test

kept_alone : (k : Known) (own : List Hypothesis) (arguments : Arguments) (d : Declaration) (u : Allowed) (es : List Entry) → used_by k.over own d u ≡ [] →
    HaveNoArguments (giving (declared_ids d) [] arguments) (statement_names d ++ body_names d) →
    kept k own arguments (added d u ∷ es) ≡ added d u ∷ kept (know k (added d u)) own (giving (declared_ids d) [] arguments) es
kept_alone k own arguments d u es e none =
    let whole : List Hypothesis → List Entry
    = λ us.
    added (generalised (giving (declared_ids d) (ids_of (without_lets us)) arguments) us d) u
    ∷ kept (know k (added d u)) own (giving (declared_ids d) (ids_of (without_lets us)) arguments) es in
    ap whole e
    ∙ ap (λ (x : Declaration). added x u ∷ kept (know k (added d u)) own (giving (declared_ids d) [] arguments) es)
    (kept_as_it_is (giving (declared_ids d) [] arguments) d none)

pub free_kept : (k : Known) (own : List Hypothesis) (arguments : Arguments) (d : Declaration) (es : List Entry) → NameNone k.over own (statement_names d ++ body_names d) →
    HaveNoArguments (giving (declared_ids d) [] arguments) (statement_names d ++ body_names d) →
    kept k own arguments (added d free ∷ es) ≡ added d free ∷ kept (know k (added d free)) own (giving (declared_ids d) [] arguments) es
free_kept k own arguments d es none alone = kept_alone k own arguments d free es (used_none k.over own (statement_names d ++ body_names d) none) alone

pub statement_kept : (k : Known) (own : List Hypothesis) (arguments : Arguments) (d : Declaration) (es : List Entry) → NameNone k.over own (statement_names d) →
    HaveNoArguments (giving (declared_ids d) [] arguments) (statement_names d ++ body_names d) →
    kept k own arguments (added d statement ∷ es) ≡ added d statement ∷ kept (know k (added d statement)) own (giving (declared_ids d) [] arguments) es
statement_kept k own arguments d es none alone = kept_alone k own arguments d statement es (used_none k.over own (statement_names d) none) alone

-- Inner and outer hypotheses
module _ (outer inner : Arguments) (none : (c : GlobalId) → HaveNoArguments outer (inner c)) where
  applied_joined : (t : Tree) → HaveNoArguments inner (names_in t) → applied outer t ≡ applied (joined outer inner) t
  applied_joined t own = ap (applied outer) (sym (kept_tree inner 0 t own)) ∙ applied_twice outer inner t none

  body_joined : (body : Option Tree) → HaveNoArguments inner (names_in_body body) → option_map (applied outer) body ≡ option_map (applied (joined outer inner)) body
  body_joined None own = refl
  body_joined (Some t) own = ap Some (applied_joined t own)

  hypotheses_joined : (hs : List Hypothesis) → HaveNoArguments inner (names_in_hypotheses hs) → hypotheses_applied outer hs ≡ hypotheses_applied (joined outer inner) hs
  hypotheses_joined [] own = refl
  hypotheses_joined (h ∷ hs) own =
      let first : HaveNoArguments inner (names_in_hypothesis h) = first_names inner (names_in_hypothesis h) (names_in_hypotheses hs) own in
      let make : Tree → Option Tree → Hypothesis = λ t b. record { id = h.id; type = t; body = b } in
      ap₂ ◌∷◌
      (ap₂ make (applied_joined h.type (first_names inner (names_in h.type) (names_in_body h.body) first))
      (body_joined h.body (last_names inner (names_in h.type) (names_in_body h.body) first)))
      (hypotheses_joined hs (last_names inner (names_in_hypothesis h) (names_in_hypotheses hs) own))

  module _ (os is : List Hypothesis) (fresh : AreFresh outer is) (own : HaveNoArguments inner (names_in_hypotheses os)) where
    both : hypotheses_applied outer os ++ hypotheses_applied (joined outer inner) is ≡ hypotheses_applied (joined outer inner) (os ++ is)
    both = ap (λ (hs : List Hypothesis). hs ++ hypotheses_applied (joined outer inner) is) (hypotheses_joined os own) ∙ sym (map-append _ os is)

    type_once : (t : Tree) → generalised_type outer os (generalised_type inner is t) ≡ generalised_type (joined outer inner) (os ++ is) t
    type_once t =
        types_inner_then_outer outer inner os is t none fresh
        ∙ ap (λ (hs : List Hypothesis). over_part (λ a b. prod a b) hs (applied (joined outer inner) t)) both

    body_once : (t : Tree) → generalised_body outer os (generalised_body inner is t) ≡ generalised_body (joined outer inner) (os ++ is) t
    body_once t =
        bodies_inner_then_outer outer inner os is t none fresh
        ∙ ap (λ (hs : List Hypothesis). over_part (λ a b. lam a b) hs (applied (joined outer inner) t)) both

    part_once : (t : Tree) → generalised_part outer os (generalised_part inner is t) ≡ generalised_part (joined outer inner) (os ++ is) t
    part_once t =
        parts_inner_then_outer outer inner os is t none fresh
        ∙ ap (λ (hs : List Hypothesis). over_block_part hs (applied (joined outer inner) t)) both

    optional_once : (body : Option Tree) →
        option_map (generalised_body outer os) (option_map (generalised_body inner is) body) ≡ option_map (generalised_body (joined outer inner) (os ++ is)) body
    optional_once None = refl
    optional_once (Some t) = ap Some (body_once t)

    constructors_once : (cs : List ConstructorDeclaration) →
        map (generalised_constructor outer os) (map (generalised_constructor inner is) cs) ≡ map (generalised_constructor (joined outer inner) (os ++ is)) cs
    constructors_once [] = refl
    constructors_once (c ∷ cs) =
        let make : Tree → ConstructorDeclaration = λ t. record { id = c.id; type = t } in
        ap₂ ◌∷◌ (ap make (part_once c.type)) (constructors_once cs)

    types_once : (ts : List TypeDeclaration) →
        map (generalised_type_declaration outer os) (map (generalised_type_declaration inner is) ts) ≡ map (generalised_type_declaration (joined outer inner) (os ++ is)) ts
    types_once [] = refl
    types_once (t ∷ ts) =
        let make : Tree → List ConstructorDeclaration → TypeDeclaration = λ a cs. record { id = t.id; arity = a; constructors = cs } in
        ap₂ ◌∷◌ (ap₂ make (part_once t.arity) (constructors_once t.constructors)) (types_once ts)

    variables_both : length (without_lets (os ++ is)) ≡ length (without_lets os) + length (without_lets is)
    variables_both = ap length (filter-append (λ h. is_none h.body) os is) ∙ length-append (without_lets os) (without_lets is)

    declaration_once : (d : Declaration) → generalised outer os (generalised inner is d) ≡ generalised (joined outer inner) (os ++ is) d
    declaration_once (axiom_of id type) = ap (axiom_of id) (type_once type)
    declaration_once (transparent id type body) = ap₂ (transparent id) (type_once type) (body_once body)
    declaration_once (opaque id type body) = ap₂ (opaque id) (type_once type) (optional_once body)
    declaration_once (inductive block) =
        let make : ℕ → List TypeDeclaration → Declaration = λ n ts. inductive (record { parameters = n; types = ts }) in
        ap₂ make (omega (arith, variables_both)) (types_once block.types)

pub twice_is_once : (outer inner : Arguments) (os is : List Hypothesis) (d : Declaration) → ((c : GlobalId) → HaveNoArguments outer (inner c)) → AreFresh outer is →
    HaveNoArguments inner (names_in_hypotheses os) → generalised outer os (generalised inner is d) ≡ generalised (joined outer inner) (os ++ is) d
twice_is_once outer inner os is d none fresh own = declaration_once outer inner none os is fresh own d
