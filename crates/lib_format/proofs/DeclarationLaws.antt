-- Declarations: what is spelled is read, and what is read was spelled.
use Rattle.std.proofs.Common.{◌≡◌, ℕ, ◌<◌, ◌^◌, List, [], ◌∷◌, ◌++◌, length, Bool, true, false, refl, ap, sym, ◌∙◌, subst, append_assoc, arith}
use Rattle.std.specs.Prelude.{◌==◌, not, None, Some}
use Rattle.std.proofs.lemmas.Bool.{eqb-true, eq-eqb}
use Rattle.cic_names.specs.declared.name.GlobalId.{GlobalId}
use Rattle.cic_names.specs.Orders.{digits, name_bytes}
use Rattle.cic_rules.specs.Environment.{ConstructorDeclaration, TypeDeclaration, Block, Declaration, axiom_of, transparent, opaque, inductive}
use Rattle.cic_terms.specs.Tree.{Tree}
use Rattle.term_format.specs.Spelling.{term_bytes}
use Rattle.term_format.specs.Storable.{IsStorable, most_number, most_levels}
use Rattle.term_format.specs.Reading.{value, read_limited}
use Rattle.term_format.specs.TermReading.{read_whole_term}
use Rattle.term_format.proofs.Bytes.{AreBytes, Spelled, follows, right_of, same_of, moved, both, so, after_byte, case_on}
use Rattle.term_format.proofs.NameLaws.{number_read, number_spelled, limited_read, limited_spelled, name_read, name_spelled}
use Rattle.term_format.proofs.Stated.{storable_read}
use Rattle.term_format.proofs.TermsSpelled.{term_spelled}
use Rattle.lib_format.specs.Lists.{list_bytes, IsList}
use Rattle.lib_format.specs.DeclarationBytes.{constructor_names, block_names, all_names, opaques_of, constructor_bytes, type_bytes, declaration_bytes, declarations_bytes, IsFresh, IsNew, IsConstructor, AreConstructors, IsInductiveType, IsBlock, IsDeclaration, AreDeclarations}
use Rattle.lib_format.specs.DeclarationReading.{read_new_name, read_new, read_constructor, read_constructors, read_inductive_type, read_inductive_types, read_axiom, read_transparent, read_place, read_opaque, read_block, kind_of, read_declaration, read_declarations}
use Rattle.lib_format.proofs.ListLaws.{list_read, some_read, list_spelled, some_spelled, three}

-- names
not_true : (t : Bool) → not t ≡ true → t ≡ false
not_true true e = absurd (cc)
not_true false e = refl

pub new_name_read : (seen : List (List ℕ)) (name rest : List ℕ) → IsFresh seen name → read_new_name seen (name_bytes name ++ rest) ≡ value name rest
unfolding read_new_name
new_name_read seen name rest h = rw (name_read name rest h.name_is, h.unseen) refl

pub new_name_spelled : (seen : List (List ℕ)) (bytes name rest : List ℕ) → AreBytes bytes → read_new_name seen bytes ≡ value name rest → Spelled (IsFresh seen name) (name_bytes name) bytes rest
unfolding read_new_name
new_name_spelled seen bytes name rest a e =
    let f = follows _ _ _ _ e in
    let r = right_of _ _ _ _ _ _ f.next in
    let p = name_spelled bytes f.first f.after a f.read in
    moved (IsFresh seen) name_bytes (same_of r.read) (so (λ n. record { name_is = n; unseen = not_true _ r.holds }) p)

pub new_read : (library : List ℕ) (seen : List (List ℕ)) (id : GlobalId) (rest : List ℕ) → IsNew library seen id → read_new library seen (name_bytes id.name ++ rest) ≡ value id rest
unfolding read_new
new_read library seen id rest h =
    rw (new_name_read seen id.name rest h.fresh) (ap (λ l. value (record { lib = l; name = id.name }) rest) (sym h.own))

pub new_spelled : (library : List ℕ) (seen : List (List ℕ)) (bytes : List ℕ) (id : GlobalId) (rest : List ℕ) → AreBytes bytes → read_new library seen bytes ≡ value id rest → Spelled (IsNew library seen id) (name_bytes id.name) bytes rest
unfolding read_new
new_spelled library seen bytes id rest a e =
    let f = follows _ _ _ _ e in
    let p = new_name_spelled seen bytes f.first f.after a f.read in
    moved (IsNew library seen) (λ i. name_bytes i.name) (same_of f.next) (so (λ n. record { own = refl; fresh = n }) p)

pub storable_spelled : (bytes : List ℕ) (t : Tree) (rest : List ℕ) → AreBytes bytes → read_whole_term bytes ≡ value t rest → Spelled (IsStorable t) (term_bytes t) bytes rest
storable_spelled bytes t rest a e = so (λ f. record { depth = f.0; rows = f.1 }) (term_spelled most_levels bytes t rest a e)

-- constructors
constructor_read : (library : List ℕ) (seen : List (List ℕ)) (c : ConstructorDeclaration) (rest : List ℕ) → IsConstructor library seen c → read_constructor library seen (constructor_bytes c ++ rest) ≡ value c rest
unfolding read_constructor
constructor_read library seen c rest h =
    rw (append_assoc (name_bytes c.id.name) (term_bytes c.type) rest, new_read library seen c.id (term_bytes c.type ++ rest) h.new, storable_read c.type rest h.type) refl

constructor_spelled : (library : List ℕ) (seen : List (List ℕ)) (bytes : List ℕ) (c : ConstructorDeclaration) (rest : List ℕ) → AreBytes bytes → read_constructor library seen bytes ≡ value c rest → Spelled (IsConstructor library seen c) (constructor_bytes c) bytes rest
unfolding read_constructor
constructor_spelled library seen bytes c rest a e =
    let f = follows _ _ _ _ e in
    let g = follows _ _ _ _ f.next in
    let p = new_spelled library seen bytes f.first f.after a f.read in
    let q = storable_spelled f.after g.first g.after p.left g.read in
    moved (IsConstructor library seen) constructor_bytes (same_of g.next) (both (λ n t. record { new = n; type = t }) p q)

constructors_read : (library : List ℕ) (seen : List (List ℕ)) (cs : List ConstructorDeclaration) (rest : List ℕ) → AreConstructors library seen cs → read_constructors library seen (list_bytes (λ before c. constructor_bytes c) cs ++ rest) ≡ value cs rest
constructors_read library seen cs rest h =
    list_read (λ before c. constructor_bytes c) (λ before c. IsConstructor library (seen ++ constructor_names before) c) (λ before. read_constructor library (seen ++ constructor_names before))
    (λ before c rest m. constructor_read library (seen ++ constructor_names before) c rest m) cs rest h

constructors_spelled : (library : List ℕ) (seen : List (List ℕ)) (bytes : List ℕ) (cs : List ConstructorDeclaration) (rest : List ℕ) → AreBytes bytes → read_constructors library seen bytes ≡ value cs rest → Spelled (AreConstructors library seen cs) (list_bytes (λ before c. constructor_bytes c) cs) bytes rest
constructors_spelled library seen bytes cs rest a e =
    list_spelled (λ before c. constructor_bytes c) (λ before c. IsConstructor library (seen ++ constructor_names before) c) (λ before. read_constructor library (seen ++ constructor_names before))
    (λ before bytes c rest a e. constructor_spelled library (seen ++ constructor_names before) bytes c rest a e) bytes cs rest a e

-- types
type_read : (library : List ℕ) (seen : List (List ℕ)) (t : TypeDeclaration) (rest : List ℕ) → IsInductiveType library seen t → read_inductive_type library seen (type_bytes t ++ rest) ≡ value t rest
unfolding read_inductive_type
type_read library seen t rest h =
    let cs = list_bytes (λ before c. constructor_bytes c) t.constructors in
    rw (
      append_assoc (name_bytes t.id.name) (term_bytes t.arity ++ cs) rest,
      new_read library seen t.id ((term_bytes t.arity ++ cs) ++ rest) h.new,
      append_assoc (term_bytes t.arity) cs rest,
      storable_read t.arity (cs ++ rest) h.arity,
      constructors_read library (seen ++ t.id.name ∷ []) t.constructors rest h.constructors,
    ) refl

type_spelled : (library : List ℕ) (seen : List (List ℕ)) (bytes : List ℕ) (t : TypeDeclaration) (rest : List ℕ) → AreBytes bytes → read_inductive_type library seen bytes ≡ value t rest → Spelled (IsInductiveType library seen t) (type_bytes t) bytes rest
unfolding read_inductive_type
type_spelled library seen bytes t rest a e =
    let f = follows _ _ _ _ e in
    let g = follows _ _ _ _ f.next in
    let k = follows _ _ _ _ g.next in
    let p = new_spelled library seen bytes f.first f.after a f.read in
    let q = storable_spelled f.after g.first g.after p.left g.read in
    let r = constructors_spelled library (seen ++ f.first.name ∷ []) g.after k.first k.after q.left k.read in
    moved (IsInductiveType library seen) type_bytes (same_of k.next)
    (three (λ n t cs. record { new = n; arity = t; constructors = cs }) p q r)

types_read : (library : List ℕ) (seen : List (List ℕ)) (ts : List TypeDeclaration) (rest : List ℕ) → 0 < length ts → IsList (λ before t. IsInductiveType library (seen ++ block_names before) t) ts → read_inductive_types library seen (list_bytes (λ before t. type_bytes t) ts ++ rest) ≡ value ts rest
types_read library seen ts rest l h =
    some_read (λ before t. type_bytes t) (λ before t. IsInductiveType library (seen ++ block_names before) t) (λ before. read_inductive_type library (seen ++ block_names before))
    (λ before t rest m. type_read library (seen ++ block_names before) t rest m) ts rest l h

-- kinds
axiom_read : (library : List ℕ) (seen : List (List ℕ)) (id : GlobalId) (type : Tree) (rest : List ℕ) → IsNew library seen id → IsStorable type → read_axiom library seen ((name_bytes id.name ++ term_bytes type) ++ rest) ≡ value (axiom_of id type) rest
unfolding read_axiom
axiom_read library seen id type rest n s =
    rw (append_assoc (name_bytes id.name) (term_bytes type) rest, new_read library seen id (term_bytes type ++ rest) n, storable_read type rest s) refl

transparent_read : (library : List ℕ) (seen : List (List ℕ)) (id : GlobalId) (type body : Tree) (rest : List ℕ) → IsNew library seen id → IsStorable type → IsStorable body → read_transparent library seen ((name_bytes id.name ++ (term_bytes type ++ term_bytes body)) ++ rest) ≡ value (transparent id type body) rest
unfolding read_transparent
transparent_read library seen id type body rest n s t =
    rw (
      append_assoc (name_bytes id.name) (term_bytes type ++ term_bytes body) rest,
      new_read library seen id ((term_bytes type ++ term_bytes body) ++ rest) n,
      append_assoc (term_bytes type) (term_bytes body) rest,
      storable_read type (term_bytes body ++ rest) s,
      storable_read body rest t,
    ) refl

same_number : (n : ℕ) → (n == n) ≡ true
same_number n = eq-eqb n n refl

pub place_read : (index : ℕ) (rest : List ℕ) → index < 2 ^ 32 → read_place index (digits index ++ rest) ≡ value index rest
unfolding read_place
place_read index rest h = rw (number_read index rest h, same_number index) refl

opaque_read : (library : List ℕ) (seen : List (List ℕ)) (index : ℕ) (id : GlobalId) (type : Tree) (rest : List ℕ) → IsNew library seen id → IsStorable type → index < 2 ^ 32 → read_opaque library seen index ((name_bytes id.name ++ (term_bytes type ++ digits index)) ++ rest) ≡ value (opaque id type None) rest
unfolding read_opaque
opaque_read library seen index id type rest n s l =
    rw (
      append_assoc (name_bytes id.name) (term_bytes type ++ digits index) rest,
      new_read library seen id ((term_bytes type ++ digits index) ++ rest) n,
      append_assoc (term_bytes type) (digits index) rest,
      storable_read type (digits index ++ rest) s,
      place_read index rest l,
    ) refl

block_read : (library : List ℕ) (seen : List (List ℕ)) (b : Block) (rest : List ℕ) → IsBlock library seen b → read_block library seen ((digits b.parameters ++ list_bytes (λ before t. type_bytes t) b.types) ++ rest) ≡ value (inductive b) rest
unfolding read_block
block_read library seen b rest h =
    let ts = list_bytes (λ before t. type_bytes t) b.types in
    rw (
      append_assoc (digits b.parameters) ts rest,
      limited_read most_number b.parameters (ts ++ rest) h.parameters (omega arith),
      types_read library seen b.types rest h.some h.types,
    ) refl

pub declaration_read : (library : List ℕ) (seen : List (List ℕ)) (index : ℕ) (d : Declaration) (rest : List ℕ) → IsDeclaration library seen index d → read_declaration library seen index (declaration_bytes index d ++ rest) ≡ value d rest
unfolding read_declaration kind_of
declaration_read library seen index (axiom_of id type) rest h = axiom_read library seen id type rest h.0 h.1
declaration_read library seen index (transparent id type body) rest h = transparent_read library seen id type body rest h.0 h.1 h.2
declaration_read library seen index (opaque id type None) rest h = opaque_read library seen index id type rest h.0 h.1 h.2
declaration_read library seen index (opaque id type (Some body)) rest h = absurd h
declaration_read library seen index (inductive b) rest h = block_read library seen b rest h

pub declarations_read : (library : List ℕ) (ds : List Declaration) (rest : List ℕ) → AreDeclarations library ds → read_declarations library (declarations_bytes ds ++ rest) ≡ value ds rest
declarations_read library ds rest h =
    list_read (λ before d. declaration_bytes (opaques_of before) d) (λ before d. IsDeclaration library (all_names before) (opaques_of before) d) (λ before. read_declaration library (all_names before) (opaques_of before))
    (λ before d rest m. declaration_read library (all_names before) (opaques_of before) d rest m) ds rest h

axiom_spelled : (library : List ℕ) (seen : List (List ℕ)) (index tag : ℕ) (more : List ℕ) (d : Declaration) (rest : List ℕ) → tag ≡ 1 → AreBytes more → read_axiom library seen more ≡ value d rest → Spelled (IsDeclaration library seen index d) (declaration_bytes index d) (tag ∷ more) rest
unfolding read_axiom
axiom_spelled library seen index tag more d rest is a e =
    let f = follows _ _ _ _ e in
    let g = follows _ _ _ _ f.next in
    let p = new_spelled library seen more f.first f.after a f.read in
    let q = storable_spelled f.after g.first g.after p.left g.read in
    moved (IsDeclaration library seen index) (declaration_bytes index) (same_of g.next) (after_byte tag 1 is (both (λ n t. (n, t)) p q))

transparent_spelled : (library : List ℕ) (seen : List (List ℕ)) (index tag : ℕ) (more : List ℕ) (d : Declaration) (rest : List ℕ) → tag ≡ 2 → AreBytes more → read_transparent library seen more ≡ value d rest → Spelled (IsDeclaration library seen index d) (declaration_bytes index d) (tag ∷ more) rest
unfolding read_transparent
transparent_spelled library seen index tag more d rest is a e =
    let f = follows _ _ _ _ e in
    let g = follows _ _ _ _ f.next in
    let k = follows _ _ _ _ g.next in
    let p = new_spelled library seen more f.first f.after a f.read in
    let q = storable_spelled f.after g.first g.after p.left g.read in
    let r = storable_spelled g.after k.first k.after q.left k.read in
    moved (IsDeclaration library seen index) (declaration_bytes index) (same_of k.next)
    (after_byte tag 2 is (three (λ n t b. (n, t, b)) p q r))

-- The number that was read is that place.
pub record PlaceIs (index : ℕ) (bytes : List ℕ) (n : ℕ) (rest : List ℕ) : Type 0 where
  pub is_that : n ≡ index
  pub spelled : Spelled (n < 2 ^ 32) (digits n) bytes rest

pub place_is : (index : ℕ) (bytes : List ℕ) (n : ℕ) (rest : List ℕ) → AreBytes bytes → read_place index bytes ≡ value n rest → PlaceIs index bytes n rest
unfolding read_place
place_is index bytes n rest a e =
    let f = follows _ _ _ _ e in
    let r = right_of _ _ _ _ _ _ f.next in
    let s = same_of r.read in
    record { is_that = sym s.value_is ∙ eqb-true f.first index r.holds; spelled = moved (λ m. m < 2 ^ 32) digits s (number_spelled bytes f.first f.after a f.read) }

place_spelled : (index : ℕ) (bytes : List ℕ) (n : ℕ) (rest : List ℕ) → AreBytes bytes → read_place index bytes ≡ value n rest → Spelled (index < 2 ^ 32) (digits index) bytes rest
place_spelled index bytes n rest a e = let p = place_is index bytes n rest a e in subst (λ m. Spelled (m < 2 ^ 32) (digits m) bytes rest) p.is_that p.spelled

opaque_spelled : (library : List ℕ) (seen : List (List ℕ)) (index tag : ℕ) (more : List ℕ) (d : Declaration) (rest : List ℕ) → tag ≡ 3 → AreBytes more → read_opaque library seen index more ≡ value d rest → Spelled (IsDeclaration library seen index d) (declaration_bytes index d) (tag ∷ more) rest
unfolding read_opaque
opaque_spelled library seen index tag more d rest is a e =
    let f = follows _ _ _ _ e in
    let g = follows _ _ _ _ f.next in
    let k = follows _ _ _ _ g.next in
    let p = new_spelled library seen more f.first f.after a f.read in
    let q = storable_spelled f.after g.first g.after p.left g.read in
    let r = place_spelled index g.after k.first k.after q.left k.read in
    moved (IsDeclaration library seen index) (declaration_bytes index) (same_of k.next)
    (after_byte tag 3 is (three (λ n t i. (n, t, i)) p q r))

block_spelled : (library : List ℕ) (seen : List (List ℕ)) (index tag : ℕ) (more : List ℕ) (d : Declaration) (rest : List ℕ) → tag ≡ 4 → AreBytes more → read_block library seen more ≡ value d rest → Spelled (IsDeclaration library seen index d) (declaration_bytes index d) (tag ∷ more) rest
unfolding read_block
block_spelled library seen index tag more d rest is a e =
    let f = follows (read_limited most_number more) _ d rest e in
    let g = follows (read_inductive_types library seen f.after) _ d rest f.next in
    let p = limited_spelled most_number more f.first f.after a f.read in
    let q = some_spelled (λ before t. type_bytes t) (λ before t. IsInductiveType library (seen ++ block_names before) t) (λ before. read_inductive_type library (seen ++ block_names before))
    (λ before bytes t rest a e. type_spelled library (seen ++ block_names before) bytes t rest a e) f.after g.first g.after p.left g.read in
    moved (IsDeclaration library seen index) (declaration_bytes index) (same_of g.next)
    (after_byte tag 4 is (both (λ n l. record { parameters = n; some = q.some; types = l }) p q.spelled))

pub declaration_spelled : (library : List ℕ) (seen : List (List ℕ)) (index : ℕ) (bytes : List ℕ) (d : Declaration) (rest : List ℕ) → AreBytes bytes → read_declaration library seen index bytes ≡ value d rest → Spelled (IsDeclaration library seen index d) (declaration_bytes index d) bytes rest
unfolding read_declaration kind_of
declaration_spelled library seen index [] d rest a e = absurd (cc)
declaration_spelled library seen index (tag ∷ more) d rest a e =
    case_on (tag == 1) _ _ e
    (λ is e. axiom_spelled library seen index tag more d rest (eqb-true tag 1 is) a.1 e)
    (λ not_1 e. case_on (tag == 2) _ _ e
    (λ is e. transparent_spelled library seen index tag more d rest (eqb-true tag 2 is) a.1 e)
    (λ not_2 e. case_on (tag == 3) _ _ e
    (λ is e. opaque_spelled library seen index tag more d rest (eqb-true tag 3 is) a.1 e)
    (λ not_3 e. case_on (tag == 4) _ _ e
    (λ is e. block_spelled library seen index tag more d rest (eqb-true tag 4 is) a.1 e)
    (λ not_4 e. absurd (cc)))))

pub declarations_spelled : (library : List ℕ) (bytes : List ℕ) (ds : List Declaration) (rest : List ℕ) → AreBytes bytes → read_declarations library bytes ≡ value ds rest → Spelled (AreDeclarations library ds) (declarations_bytes ds) bytes rest
declarations_spelled library bytes ds rest a e =
    list_spelled (λ before d. declaration_bytes (opaques_of before) d) (λ before d. IsDeclaration library (all_names before) (opaques_of before) d) (λ before. read_declaration library (all_names before) (opaques_of before))
    (λ before bytes d rest a e. declaration_spelled library (all_names before) (opaques_of before) bytes d rest a e) bytes ds rest a e
