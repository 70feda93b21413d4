-- Readings of the examples.
use Rattle.std.proofs.Common.{◌≡◌, ℕ, List, [], ◌∷◌, ◌++◌, refl, arith}
use Rattle.std.specs.Prelude.{codes}
use Rattle.cic_rules.specs.Environment.{axiom_of, inductive}
use Rattle.cic_terms.specs.Tree.{sort, prop, set, prod}
use Rattle.seg_format.specs.declared.faults.Defect.TheVariants.{Number, Tag}
use Rattle.seg_format.specs.declared.faults.Defect.TheVariants.{Name as NoName}
use Rattle.term_format.specs.Storable.{IsName}
use Rattle.term_format.specs.Reading.{value, wrong, read_number, number_of, read_limited, read_name}
use Rattle.term_format.specs.TermReading.{read_whole_term, read_term, row_of}
use Rattle.term_format.proofs.NameLaws.{name_read}
use Rattle.term_format.proofs.Stated.{storable_read}
use Rattle.term_format.proofs.ExampleNames.{one_byte, is_n, is_A, is_u}
use Rattle.lib_format.specs.Lists.{read_list, read_some}
use Rattle.lib_format.specs.DeclarationReading.{read_new_name, read_new, read_constructor, read_inductive_type, read_block, read_opaque, read_place, read_axiom, kind_of, read_declaration}
use Rattle.lib_format.specs.ContentsReading.{read_levels}
use Rattle.lib_format.specs.calls.Examples.{the_type, type_n, numbers, numbers_with}

name_a : IsName (97 ∷ [])
name_a = (one_byte 97 (omega arith), omega arith)

name_n : IsName (110 ∷ [])
name_n = (is_n, omega arith)

name_o : IsName (111 ∷ [])
name_o = (one_byte 111 (omega arith), omega arith)

name_u : IsName (117 ∷ [])
name_u = (is_u, omega arith)

read_a : (rest : List ℕ) → read_name (1 ∷ 97 ∷ rest) ≡ value (97 ∷ []) rest
read_a rest = name_read (97 ∷ []) rest name_a

read_n : (rest : List ℕ) → read_name (1 ∷ 110 ∷ rest) ≡ value (110 ∷ []) rest
read_n rest = name_read (110 ∷ []) rest name_n

read_o : (rest : List ℕ) → read_name (1 ∷ 111 ∷ rest) ≡ value (111 ∷ []) rest
read_o rest = name_read (111 ∷ []) rest name_o

read_u : (rest : List ℕ) → read_name (1 ∷ 117 ∷ rest) ≡ value (117 ∷ []) rest
read_u rest = name_read (117 ∷ []) rest name_u

read_set : (rest : List ℕ) → read_whole_term (2 ∷ rest) ≡ value (sort set) rest
unfolding read_term row_of
read_set rest = refl

read_prop : (rest : List ℕ) → read_whole_term (1 ∷ rest) ≡ value (sort prop) rest
unfolding read_term row_of
read_prop rest = refl

read_the_type : (rest : List ℕ) → read_whole_term (type_n ++ rest) ≡ value the_type rest
read_the_type rest = storable_read the_type rest (record { depth = omega arith; rows = ((is_A, omega arith), name_n) })

pub axiom_shown : read_declaration (codes "A") [] 0 (1 ∷ 1 ∷ 97 ∷ 1 ∷ 7 ∷ []) ≡ value (axiom_of (record { lib = codes "A"; name = codes "a" }) (sort prop)) (7 ∷ [])
unfolding read_declaration kind_of read_axiom read_new read_new_name
axiom_shown = rw (read_a (1 ∷ 7 ∷ []), read_prop (7 ∷ [])) refl

pub seen_shown : read_declaration (codes "A") (codes "a" ∷ []) 0 (1 ∷ 1 ∷ 97 ∷ 1 ∷ []) ≡ wrong NoName 3
unfolding read_declaration kind_of read_axiom read_new read_new_name
seen_shown = rw (read_a (1 ∷ [])) refl

pub place_shown : read_declaration (codes "A") [] 1 (3 ∷ 1 ∷ 97 ∷ 1 ∷ 0 ∷ 0 ∷ 0 ∷ 0 ∷ []) ≡ wrong Number 4
unfolding read_declaration kind_of read_opaque read_new read_new_name read_place read_number number_of
place_shown = rw (read_a (1 ∷ 0 ∷ 0 ∷ 0 ∷ 0 ∷ []), read_prop (0 ∷ 0 ∷ 0 ∷ 0 ∷ [])) refl

pub kind_shown : read_declaration (codes "A") [] 0 (5 ∷ []) ≡ wrong Tag 1
unfolding read_declaration kind_of
kind_shown = refl

pub no_types_shown : read_declaration (codes "A") [] 0 (4 ∷ 0 ∷ 0 ∷ 0 ∷ 0 ∷ 0 ∷ 0 ∷ 0 ∷ 0 ∷ []) ≡ wrong Number 4
unfolding read_declaration kind_of read_block read_limited read_number number_of read_some
no_types_shown = refl

pub parameters_shown : read_declaration (codes "A") [] 0 (4 ∷ 0 ∷ 16 ∷ 0 ∷ 1 ∷ []) ≡ wrong Number 4
unfolding read_declaration kind_of read_block read_limited read_number number_of
parameters_shown = refl

-- The type, its arity, and the first constructor.
numbers_begin : (name : ℕ) → numbers_with name ≡ (4 ∷ 0 ∷ 0 ∷ 0 ∷ 0 ∷ 0 ∷ 0 ∷ 0 ∷ 1 ∷ 1 ∷ 110 ∷ 2 ∷ 0 ∷ 0 ∷ 0 ∷ 2 ∷ 1 ∷ 111 ∷ (type_n ++ (1 ∷ name ∷ 4 ∷ (type_n ++ type_n))))
numbers_begin name = refl

pub type_name_shown : read_declaration (codes "A") [] 0 (numbers_with 110) ≡ wrong NoName 13
unfolding read_declaration kind_of read_block read_limited read_number number_of read_some read_list read_inductive_type read_constructor read_new read_new_name
type_name_shown =
    let last = 1 ∷ 110 ∷ 4 ∷ (type_n ++ type_n) in
    let first = 1 ∷ 111 ∷ (type_n ++ last) in
    let constructors = 0 ∷ 0 ∷ 0 ∷ 2 ∷ first in
    rw (read_n (2 ∷ constructors), read_set constructors, read_o (type_n ++ last), read_the_type last, read_n (4 ∷ (type_n ++ type_n))) refl

pub same_constructor_shown : read_declaration (codes "A") [] 0 (numbers_with 111) ≡ wrong NoName 13
unfolding read_declaration kind_of read_block read_limited read_number number_of read_some read_list read_inductive_type read_constructor read_new read_new_name
same_constructor_shown =
    let last = 1 ∷ 111 ∷ 4 ∷ (type_n ++ type_n) in
    let first = 1 ∷ 111 ∷ (type_n ++ last) in
    let constructors = 0 ∷ 0 ∷ 0 ∷ 2 ∷ first in
    rw (read_n (2 ∷ constructors), read_set constructors, read_o (type_n ++ last), read_the_type last, read_o (4 ∷ (type_n ++ type_n))) refl

pub levels_shown : read_levels (0 ∷ 0 ∷ 0 ∷ 2 ∷ 1 ∷ 117 ∷ 1 ∷ 117 ∷ []) ≡ wrong NoName 2
unfolding read_list read_number number_of read_new_name
levels_shown = rw (read_u (1 ∷ 117 ∷ []), read_u []) refl

name_s : IsName (115 ∷ [])
name_s = (one_byte 115 (omega arith), omega arith)

read_s : (rest : List ℕ) → read_name (1 ∷ 115 ∷ rest) ≡ value (115 ∷ []) rest
read_s rest = name_read (115 ∷ []) rest name_s

read_arrow : read_whole_term (4 ∷ (type_n ++ type_n)) ≡ value (prod the_type the_type) []
read_arrow = storable_read (prod the_type the_type) [] (record { depth = omega arith; rows = (((is_A, omega arith), name_n), ((is_A, omega arith), name_n)) })

pub numbers_shown : read_declaration (codes "A") [] 0 (numbers_with 115) ≡ value (inductive numbers) []
unfolding read_declaration kind_of read_block read_limited read_number number_of read_some read_list read_inductive_type read_constructor read_new read_new_name
numbers_shown =
    let last = 1 ∷ 115 ∷ 4 ∷ (type_n ++ type_n) in
    let first = 1 ∷ 111 ∷ (type_n ++ last) in
    let constructors = 0 ∷ 0 ∷ 0 ∷ 2 ∷ first in
    rw (read_n (2 ∷ constructors), read_set constructors, read_o (type_n ++ last), read_the_type last, read_s (4 ∷ (type_n ++ type_n)), read_arrow) refl
