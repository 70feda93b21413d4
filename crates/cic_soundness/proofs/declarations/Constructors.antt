-- The check of the arities and of the constructors of a block is right wherever the calls that it makes are: what
-- it is done with has sorts by the rules, and the sort of each argument is at most that of its type. The calls are
-- left open here, since arities are checked over the environment and constructors over the block taken bare.
use Rattle.std.proofs.Common.{◌≡◌, ℕ, Some, List, [], ◌∷◌, ◌++◌, length, take, drop, sym, ap, ap₂, ◌∙◌, subst}
use Rattle.cic_terms.specs.Tree.{TreeSort, Tree, sort, ind}
use Rattle.cic_names.specs.declared.name.GlobalId.{GlobalId}
use Rattle.cic_rules.specs.Numbering.{Numbering, MeetsAll}
use Rattle.cic_rules.specs.Environment.{Environment, Context, TypeDeclaration, ConstructorDeclaration, assumed}
use Rattle.cic_rules.specs.Telescopes.{apply, products, domains_of, conclusion_of, extend}
use Rattle.cic_rules.specs.Inductive.{Each, ConstructorShape, TypeShape}
use Rattle.cic_rules.specs.Typing.{Typed, HasSort, WellFormedContext}
use Rattle.cic_rules.specs.Formed.{WellFormedArguments, well_formed_conclusion, well_formed_argument, WellFormedConstructor, WellFormedType}
use Rattle.cic_counted.specs.Outcome.{Budget, done, ◌>>◌, give}
use Rattle.cic_counted.specs.Inference.{Calls}
use Rattle.cic_counted.specs.Checking.{check_arities, argument_at_most, check_arguments, ending_sort, check_constructor, check_constructors, check_types}
use Rattle.cic_counted.proofs.Taken.{follow_done, done_rest}
use Rattle.cic_metatheory.proofs.basics.ConstructorTypes.{shape_is_type}
use Rattle.cic_metatheory.proofs.typings.Instances.{sort_at, assumed_well_formed, opened_well_formed}
use Rattle.cic_soundness.proofs.declarations.Sorts.{found_along, argument_met, argument_is_at_most}
use Rattle.cic_soundness.proofs.blocks.Shapes.{products_in_two, constructor_read, applied_to}
use Rattle.cic_metatheory.proofs.basics.Products.{conclusion_of_products}

-- Types: the sort that an arity ends in is the one that the check reads off it.
ending_read : (domains : List Tree) (t : TypeDeclaration) (shape : TypeShape domains t) → ending_sort (conclusion_of t.arity) ≡ Some shape.arity.sort_of
ending_read domains t shape =
    ap (λ a. ending_sort (conclusion_of a)) shape.arity.is_arity
    ∙ ap ending_sort (conclusion_of_products domains (products shape.arity.indices (sort shape.arity.sort_of)) ∙ conclusion_of_products shape.arity.indices (sort shape.arity.sort_of))

module _ (N : Numbering) (calls : Calls)
    (met : (G : Context) (t : Tree) (s : TreeSort) (b b' : Budget) → calls.sort_of G t b ≡ done s b' → MeetsAll N b'.found → MeetsAll N b.found) where
  -- What is met after a check was met before it.
  pub arities_met : (ts : List TypeDeclaration) (u : Unit {0}) (b b' : Budget) → check_arities calls ts b ≡ done u b' → MeetsAll N b'.found → MeetsAll N b.found
  arities_met [] u b b' e m = found_along N b b' (done_rest e) m
  arities_met (t ∷ ts) u b b' e m =
      let f = follow_done (calls.sort_of [] t.arity b) (λ _. check_arities calls ts) u b' e in
      met [] t.arity f.0 b f.1 f.2 (arities_met ts u f.1 b' f.3 m)

  arguments_met : (G : Context) (s : TreeSort) (as_ : List Tree) (conclusion : Tree) (u : Unit {0}) (b b' : Budget) → check_arguments calls G s as_ conclusion b ≡ done u b' → MeetsAll N b'.found → MeetsAll N b.found
  arguments_met G s [] conclusion u b b' e m =
      let f = follow_done (calls.sort_of G conclusion b) (λ _. give tt) u b' e in
      met G conclusion f.0 b f.1 f.2 (found_along N f.1 b' (done_rest f.3) m)
  arguments_met G s (a ∷ as_) conclusion u b b' e m =
      let f = follow_done (calls.sort_of G a b) (λ s'. argument_at_most G s' s >> check_arguments calls (assumed a ∷ G) s as_ conclusion) u b' e in
      let g = follow_done (argument_at_most G f.0 s f.1) (λ _. check_arguments calls (assumed a ∷ G) s as_ conclusion) u b' f.3 in
      met G a f.0 b f.1 f.2 (argument_met N G f.0 s g.0 f.1 g.1 g.2 (arguments_met (assumed a ∷ G) s as_ conclusion u g.1 b' g.3 m))

  constructors_met : (r : ℕ) (s : TreeSort) (cs : List ConstructorDeclaration) (u : Unit {0}) (b b' : Budget) → check_constructors calls r (Some s) cs b ≡ done u b' → MeetsAll N b'.found → MeetsAll N b.found
  constructors_met r s [] u b b' e m = found_along N b b' (done_rest e) m
  constructors_met r s (c ∷ cs) u b b' e m =
      let f = follow_done (check_constructor calls r (Some s) c b) (λ _. check_constructors calls r (Some s) cs) u b' e in
      arguments_met (extend [] (take r (domains_of c.type))) s (drop r (domains_of c.type)) (conclusion_of c.type) f.0 b f.1 f.2 (constructors_met r s cs u f.1 b' f.3 m)

  pub types_met : (r : ℕ) (domains : List Tree) (ts : List TypeDeclaration) (u : Unit {0}) (b b' : Budget) → Each (TypeShape domains) ts → check_types calls r ts b ≡ done u b' → MeetsAll N b'.found → MeetsAll N b.found
  types_met r domains [] u b b' shapes e m = found_along N b b' (done_rest e) m
  types_met r domains (t ∷ ts) u b b' shapes e m =
      let f = follow_done (check_constructors calls r (ending_sort (conclusion_of t.arity)) t.constructors b) (λ _. check_types calls r ts) u b' e in
      constructors_met r shapes.0.arity.sort_of t.constructors f.0 b f.1 (ap (λ s. check_constructors calls r s t.constructors b) (sym (ending_read domains t shapes.0)) ∙ f.2)
      (types_met r domains ts u f.1 b' shapes.1 f.3 m)

module _ (E : Environment) (N : Numbering) (calls : Calls)
    (met : (G : Context) (t : Tree) (s : TreeSort) (b b' : Budget) → calls.sort_of G t b ≡ done s b' → MeetsAll N b'.found → MeetsAll N b.found)
    (sorts : (G : Context) (t : Tree) (s : TreeSort) (b b' : Budget) → WellFormedContext E N G → calls.sort_of G t b ≡ done s b' → MeetsAll N b'.found → Typed E N G t (sort s)) where
  pub arities_have_sorts : (ts : List TypeDeclaration) (u : Unit {0}) (b b' : Budget) → check_arities calls ts b ≡ done u b' → MeetsAll N b'.found →
      Each (λ t. HasSort E N [] t.arity) ts
  arities_have_sorts [] u b b' e m = tt
  arities_have_sorts (t ∷ ts) u b b' e m =
      let f = follow_done (calls.sort_of [] t.arity b) (λ _. check_arities calls ts) u b' e in
      (record { its_sort = f.0; typed = sorts [] t.arity f.0 b f.1 tt f.2 (arities_met N calls met ts u f.1 b' f.3 m) }, arities_have_sorts ts u f.1 b' f.3 m)

  -- Constructors
  arguments_right : (G : Context) (s : TreeSort) (as_ : List Tree) (conclusion : Tree) (u : Unit {0}) (b b' : Budget) → WellFormedContext E N G →
      check_arguments calls G s as_ conclusion b ≡ done u b' → MeetsAll N b'.found → WellFormedArguments E N s conclusion G as_
  arguments_right G s [] conclusion u b b' w e m =
      let f = follow_done (calls.sort_of G conclusion b) (λ _. give tt) u b' e in
      well_formed_conclusion (record { its_sort = f.0; typed = sorts G conclusion f.0 b f.1 w f.2 (found_along N f.1 b' (done_rest f.3) m) })
  arguments_right G s (a ∷ as_) conclusion u b b' w e m =
      let f = follow_done (calls.sort_of G a b) (λ s'. argument_at_most G s' s >> check_arguments calls (assumed a ∷ G) s as_ conclusion) u b' e in
      let g = follow_done (argument_at_most G f.0 s f.1) (λ _. check_arguments calls (assumed a ∷ G) s as_ conclusion) u b' f.3 in
      let rest = arguments_met N calls met (assumed a ∷ G) s as_ conclusion u g.1 b' g.3 m in
      let typed = sorts G a f.0 b f.1 w f.2 (argument_met N G f.0 s g.0 f.1 g.1 g.2 rest) in
      well_formed_argument typed (argument_is_at_most N G f.0 s g.0 f.1 g.1 g.2 rest)
      (arguments_right (assumed a ∷ G) s as_ conclusion u g.1 b' (assumed_well_formed E N G a (record { its_sort = f.0; typed = typed }) w) g.3 m)

  constructor_is_right : (r n : ℕ) (domains : List Tree) (id : GlobalId) (s : TreeSort) (c : ConstructorDeclaration) (u : Unit {0}) (b b' : Budget) → length domains ≡ r → WellFormedContext E N (extend [] domains) →
      ConstructorShape domains id n c.type → check_constructor calls r (Some s) c b ≡ done u b' → MeetsAll N b'.found → WellFormedConstructor E N r id s c.type
  constructor_is_right r n domains id s c u b b' l w shape e m =
      let us = applied_to domains shape.parts.arguments ++ shape.indices in
      let k = constructor_read r domains shape.parts.arguments us id c.type l (shape_is_type shape) in
      record {
        parts = record {
          parameters = take r (domains_of c.type);
          arguments = drop r (domains_of c.type);
          applied_to = us;
          is_type = k.is_type ∙ ap₂ (λ ps as_. products ps (products as_ (apply (ind id) us))) (sym k.taken) (sym k.dropped);
          as_many = ap length k.taken ∙ l;
        };
        right = subst (λ t. WellFormedArguments E N s t (extend [] (take r (domains_of c.type))) (drop r (domains_of c.type))) k.concluded
            (arguments_right (extend [] (take r (domains_of c.type))) s (drop r (domains_of c.type)) (conclusion_of c.type) u b b'
            (subst (λ ds. WellFormedContext E N (extend [] ds)) (sym k.taken) w) e m);
      }

  constructors_right : (r n : ℕ) (domains : List Tree) (id : GlobalId) (s : TreeSort) (cs : List ConstructorDeclaration) (u : Unit {0}) (b b' : Budget) → length domains ≡ r → WellFormedContext E N (extend [] domains) →
      Each (λ c. ConstructorShape domains id n c.type) cs → check_constructors calls r (Some s) cs b ≡ done u b' → MeetsAll N b'.found → Each (λ c. WellFormedConstructor E N r id s c.type) cs
  constructors_right r n domains id s [] u b b' l w shapes e m = tt
  constructors_right r n domains id s (c ∷ cs) u b b' l w shapes e m =
      let f = follow_done (check_constructor calls r (Some s) c b) (λ _. check_constructors calls r (Some s) cs) u b' e in (
        constructor_is_right r n domains id s c f.0 b f.1 l w shapes.0 f.2 (constructors_met N calls met r s cs u f.1 b' f.3 m),
        constructors_right r n domains id s cs u f.1 b' l w shapes.1 f.3 m,
      )

  -- Types
  pub types_right : (r : ℕ) (domains : List Tree) (ts : List TypeDeclaration) (u : Unit {0}) (b b' : Budget) → length domains ≡ r → Each (TypeShape domains) ts → Each (λ t. HasSort E N [] t.arity) ts →
      check_types calls r ts b ≡ done u b' → MeetsAll N b'.found → Each (WellFormedType E N r) ts
  types_right r domains [] u b b' l shapes sorted e m = tt
  types_right r domains (t ∷ ts) u b b' l shapes sorted e m =
      let f = follow_done (check_constructors calls r (ending_sort (conclusion_of t.arity)) t.constructors b) (λ _. check_types calls r ts) u b' e in
      let a = shapes.0.arity in
      let end = products a.indices (sort a.sort_of) in (
        record {
          domains = domains ++ a.indices;
          ends_in = a.sort_of;
          is_arity = a.is_arity ∙ sym (products_in_two domains a.indices (sort a.sort_of));
          constructors = constructors_right r (length a.indices) domains t.id a.sort_of t.constructors f.0 b f.1 l
              (opened_well_formed E N [] domains end (sort_at E N [] t.arity (products domains end) a.is_arity sorted.0) tt)
              shapes.0.constructors (ap (λ s. check_constructors calls r s t.constructors b) (sym (ending_read domains t shapes.0)) ∙ f.2)
              (types_met N calls met r domains ts u f.1 b' shapes.1 f.3 m);
        },
        types_right r domains ts u f.1 b' l shapes.1 sorted.1 f.3 m,
      )
