-- Products over domains that have sorts may end in any type that has one under them, whatever sorts these are. This
-- is what makes the type of a constructor a type, once its parameters, its arguments and its conclusion are.
use Rattle.std.proofs.Common.{ℕ, ◌+◌, ◌≤◌, max, List, [], ◌∷◌, refl, arith}
use Rattle.cic_terms.specs.Tree.{TreeSort, prop, set, typ, own, Tree, sort, prod}
use Rattle.cic_rules.specs.Numbering.{Numbering, expression_number}
use Rattle.cic_rules.specs.Environment.{Environment, Context, assumed}
use Rattle.cic_rules.specs.Telescopes.{products, extend}
use Rattle.cic_rules.specs.Conversion.{sorts, SortAtMost, proposition, set_at_most_universe, universes}
use Rattle.cic_rules.specs.Typing as T
use Rattle.cic_rules.specs.Typing.{in_universe, Typed, HasSort}
use Rattle.cic_rules.specs.Formed.{WellFormedArguments, well_formed_conclusion, well_formed_argument}
use Rattle.cic_metatheory.proofs.typings.Validity.{sort_has_sort}
use Rattle.cic_metatheory.proofs.typings.ProductParts.{domain_has_sort, codomain_has_sort}

-- A sort that is greater
pub raised : (E : Environment) (N : Numbering) (G : Context) (t : Tree) (s s' : TreeSort) → Typed E N G t (sort s) → SortAtMost N s s' → Typed E N G t (sort s')
raised E N G t s s' p l = T.Typed.conversion p (sort_has_sort E N G s').typed (sorts l)

-- A product whose domain and codomain have sorts has one: a universe that is at least as great as both.
sort_bound : Numbering → TreeSort → ℕ
sort_bound N prop = 0
sort_bound N set = 0
sort_bound N (typ e) = expression_number N e
sort_bound N (own i) = i

at_most_own : (N : Numbering) (s : TreeSort) (k : ℕ) → sort_bound N s ≤ k → SortAtMost N s (own k)
unfolding sort_bound
at_most_own N prop k h = proposition
at_most_own N set k h = set_at_most_universe refl
at_most_own N (typ e) k h = universes {i = expression_number N e} {j = k + 1} refl refl (omega (arith, h))
at_most_own N (own i) k h = universes {i = i + 1} {j = k + 1} refl refl (omega (arith, h))

pub product_has_sort : (E : Environment) (N : Numbering) (G : Context) (a b : Tree) → HasSort E N G a → HasSort E N (assumed a ∷ G) b → HasSort E N G (prod a b)
product_has_sort E N G a b p q =
    let i = sort_bound N p.its_sort in
    let j = sort_bound N q.its_sort in
    let k = max i j in
    record {
      its_sort = own k;
      typed = T.Typed.product
          (raised E N G a p.its_sort (own k) p.typed (at_most_own N p.its_sort k (omega arith)))
          (raised E N (assumed a ∷ G) b q.its_sort (own k) q.typed (at_most_own N q.its_sort k (omega arith)))
          (in_universe {i = k + 1} refl refl refl);
    }

-- Products over domains that other products with a sort have too
pub products_have_sort : (E : Environment) (N : Numbering) (G : Context) (as_ : List Tree) (x y : Tree) → HasSort E N G (products as_ y) → HasSort E N (extend G as_) x → HasSort E N G (products as_ x)
products_have_sort E N G [] x y h p = p
products_have_sort E N G (a ∷ as_) x y h p =
    product_has_sort E N G a (products as_ x) (domain_has_sort E N G a (products as_ y) (sort h.its_sort) h.typed)
    (products_have_sort E N (assumed a ∷ G) as_ x y (codomain_has_sort E N G a (products as_ y) (sort h.its_sort) h.typed) p)

-- Products over the arguments of a constructor
pub arguments_have_sort : (E : Environment) (N : Numbering) (s : TreeSort) (x : Tree) {G : Context} {as_ : List Tree} → WellFormedArguments E N s x G as_ → HasSort E N G (products as_ x)
arguments_have_sort E N s x (well_formed_conclusion h) = h
arguments_have_sort E N s x (well_formed_argument {G = G} {a = a} {as_ = as_} {s' = s'} p q h) =
    product_has_sort E N G a (products as_ x) (record { its_sort = s'; typed = p }) (arguments_have_sort E N s x h)
