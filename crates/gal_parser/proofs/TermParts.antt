-- What a term and an atom must have after the parts that were read of them. A reader of terms that misses such a
-- part knows by these laws that no term stands there.
use Rattle.std.proofs.Common.{ℕ, suc, List, ◌≡◌, ◌≢◌, ◌-◌, refl, ap, subst, arith}
use Rattle.std.specs.Prelude.{Result, Ok, Err, codes}
use Rattle.gal_parser.specs.Tokens.{after_blanks, SpellsWord, SpellsIdentifier, SpellsColon, SpellsSymbol}
use Rattle.gal_parser.specs.Grammar.{RawTerm, for_all, SpellsTerm, spells_for_all, spells_arrow, spells_atom, SpellsAtom, spells_prop, spells_name, spells_group}
use Rattle.gal_parser.specs.calls.Reading.{ReadsOrLacks, SpellsBinding, spells_binding}
use Rattle.gal_parser.specs.declared.lexer.Fault.{Fault}
use Rattle.gal_parser.proofs.TokenLaws.{one_word, one_identifier, one_symbol, colon_at, symbol_at, no_word_at_parenthesis}
use Rattle.gal_parser.proofs.GrammarLaws.{lacks_part, one_term_at, one_atom, no_atom_at_forall}

-- a room that is not 0 is one more than what is left for the parts
pub has_room : (n : ℕ) → n ≢ 0 → suc (n - 1) ≡ n
has_room n e = grind arith

-- a term that begins with the word forall is that word and what follows it
pub binding_of : {m : ℕ} {s a r : List ℕ} {t : RawTerm} → SpellsWord (after_blanks s) a (codes "forall") → SpellsTerm (suc m) s r t → SpellsBinding m a r t
binding_of {m = m} {r = r} h (spells_for_all {x = x} {type = type} {body = body} k1 k2 k3 k4 k5 k6) =
    subst (λ z. SpellsBinding m z r (for_all x type body)) (one_word k1 h).1 (spells_binding k2 k3 k4 k5 k6)
binding_of h (spells_arrow k1 k2 k3) = absurd (no_atom_at_forall refl h k1)
binding_of h (spells_atom k1 k2) = absurd (no_atom_at_forall refl h k1)

pub of_binding : {m : ℕ} {s a r : List ℕ} {t : RawTerm} → SpellsWord (after_blanks s) a (codes "forall") → SpellsBinding m a r t → SpellsTerm (suc m) s r t
of_binding h (spells_binding k2 k3 k4 k5 k6) = spells_for_all h k2 k3 k4 k5 k6

pub takes_binding : {X : Type 0} (m : ℕ) (value : X → RawTerm) (result : Result X Fault) (s a r : List ℕ) → SpellsWord (after_blanks s) a (codes "forall") →
    ReadsOrLacks (SpellsBinding m) value result a r → ReadsOrLacks (SpellsTerm (suc m)) value result s r
takes_binding m value (Ok x) s a r h b = of_binding h b
takes_binding m value (Err e) s a r h b = lacks_part e b (λ q t w. (q, t, binding_of h w))

-- another term begins with an atom
pub atom_of : {m : ℕ} {s r : List ℕ} {t : RawTerm} → ((a : List ℕ) → SpellsWord (after_blanks s) a (codes "forall") → ⊥) →
    SpellsTerm (suc m) s r t → (a : List ℕ) × (u : RawTerm) × SpellsAtom m s a u
atom_of none (spells_for_all {a = a} h1 h2 h3 h4 h5 h6) = absurd (none a h1)
atom_of none (spells_arrow {a = a} {from = from} h1 h2 h3) = (a, from, h1)
atom_of none (spells_atom {r = r} {t = t} h1 h2) = (r, t, h1)

-- and after an arrow it goes on with a term
pub target_of : {m : ℕ} {s a b r : List ℕ} {t u : RawTerm} → SpellsAtom m s a u → SpellsSymbol (codes "->") (after_blanks a) b →
    SpellsTerm (suc m) s r t → (q : List ℕ) × (v : RawTerm) × SpellsTerm m b q v
target_of h1 h2 (spells_for_all k1 k2 k3 k4 k5 k6) = absurd (no_atom_at_forall refl k1 h1)
target_of {m = m} {r = r} h1 h2 (spells_arrow {to = to} k1 k2 k3) =
    (r, to, subst (λ z. SpellsTerm m z r to) (symbol_at (codes "->") (ap after_blanks (one_atom k1 h1).1) k2 h2) k3)
target_of {b = b} h1 h2 (spells_atom k1 k2) =
    absurd (k2 b (subst (λ z. SpellsSymbol (codes "->") (after_blanks z) b) (one_atom h1 k1).1 h2))

-- what follows the word forall has a colon after the binder, then a type, a comma and a body
pub colon_of : {m : ℕ} {s a r x : List ℕ} {t : RawTerm} → SpellsIdentifier (after_blanks s) a x → SpellsBinding m s r t → (b : List ℕ) × SpellsColon (after_blanks a) b
colon_of h1 (spells_binding {b = b} k1 k2 k3 k4 k5) = (b, subst (λ z. SpellsColon (after_blanks z) b) (one_identifier k1 h1).1 k2)

same_colon : (s : List ℕ) {a a' b b' x x' : List ℕ} → SpellsIdentifier (after_blanks s) a x → SpellsColon (after_blanks a) b →
    SpellsIdentifier (after_blanks s) a' x' → SpellsColon (after_blanks a') b' → b ≡ b'
same_colon s h1 h2 k1 k2 = colon_at (ap after_blanks (one_identifier h1 k1).1) h2 k2

pub type_of : {m : ℕ} {s a b r x : List ℕ} {t : RawTerm} → SpellsIdentifier (after_blanks s) a x → SpellsColon (after_blanks a) b →
    SpellsBinding m s r t → (c : List ℕ) × (u : RawTerm) × SpellsTerm m b c u
type_of {m = m} {s = s} h1 h2 (spells_binding {c = c} {type = type} k1 k2 k3 k4 k5) =
    (c, type, subst (λ z. SpellsTerm m z c type) (same_colon s k1 k2 h1 h2) k3)

pub comma_of : {m : ℕ} {s a b c r x : List ℕ} {t u : RawTerm} → SpellsIdentifier (after_blanks s) a x → SpellsColon (after_blanks a) b →
    SpellsTerm m b c u → SpellsBinding m s r t → (d : List ℕ) × SpellsSymbol (codes ",") (after_blanks c) d
comma_of {s = s} h1 h2 h3 (spells_binding {d = d} k1 k2 k3 k4 k5) =
    (d, subst (λ z. SpellsSymbol (codes ",") (after_blanks z) d) (one_term_at (same_colon s k1 k2 h1 h2) k3 h3).1 k4)

pub body_of : {m : ℕ} {s a b c d r x : List ℕ} {t u : RawTerm} → SpellsIdentifier (after_blanks s) a x → SpellsColon (after_blanks a) b →
    SpellsTerm m b c u → SpellsSymbol (codes ",") (after_blanks c) d → SpellsBinding m s r t → (q : List ℕ) × (v : RawTerm) × SpellsTerm m d q v
body_of {m = m} {s = s} {r = r} h1 h2 h3 h4 (spells_binding {body = body} k1 k2 k3 k4 k5) =
    let type = (one_term_at (same_colon s k1 k2 h1 h2) k3 h3).1 in
    (r, body, subst (λ z. SpellsTerm m z r body) (symbol_at (codes ",") (ap after_blanks type) k4 h4) k5)

-- an atom that begins with a parenthesis has a term after it, and then the other parenthesis
pub inner_of : {m : ℕ} {s a r : List ℕ} {t : RawTerm} → SpellsSymbol (codes "(") (after_blanks s) a → SpellsAtom m s r t → (b : List ℕ) × (u : RawTerm) × SpellsTerm m a b u
inner_of h1 (spells_prop k) = absurd (no_word_at_parenthesis refl h1 k)
inner_of h1 (spells_name k) = absurd (no_word_at_parenthesis refl h1 k.word)
inner_of {m = m} h1 (spells_group {b = b} {t = t} k1 k2 k3) = (b, t, subst (λ z. SpellsTerm m z b t) (one_symbol (codes "(") k1 h1) k2)

pub closing_of : {m : ℕ} {s a b r : List ℕ} {t u : RawTerm} → SpellsSymbol (codes "(") (after_blanks s) a → SpellsTerm m a b u →
    SpellsAtom m s r t → SpellsSymbol (codes ")") (after_blanks b) r
closing_of h1 h2 (spells_prop k) = absurd (no_word_at_parenthesis refl h1 k)
closing_of h1 h2 (spells_name k) = absurd (no_word_at_parenthesis refl h1 k.word)
closing_of {r = r} h1 h2 (spells_group k1 k2 k3) =
    subst (λ z. SpellsSymbol (codes ")") (after_blanks z) r) (one_term_at (one_symbol (codes "(") k1 h1) k2 h2).1 k3

-- an atom that is not Prop and begins with no parenthesis is a name
pub name_of : {m : ℕ} {s r : List ℕ} {t : RawTerm} → ((a : List ℕ) → SpellsWord (after_blanks s) a (codes "Prop") → ⊥) →
    ((a : List ℕ) → SpellsSymbol (codes "(") (after_blanks s) a → ⊥) → SpellsAtom m s r t → (x : List ℕ) × SpellsIdentifier (after_blanks s) r x
name_of no_prop no_group (spells_prop {r = r} h) = absurd (no_prop r h)
name_of no_prop no_group (spells_name {x = x} h) = (x, h)
name_of no_prop no_group (spells_group {a = a} h1 h2 h3) = absurd (no_group a h1)
