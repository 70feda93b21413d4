-- The identifiers of a source are those that a name may have.
use Rattle.std.proofs.Common.{ℕ, Bool, true, false, cond, List, [], ◌∷◌, ◌++◌, ◌≡◌, ◌&&◌, ◌||◌, Option, Some, None, length, drop, take, not, refl, ap, sym, subst, ◌∙◌}
use Rattle.std.proofs.lemmas.List.{take_at}
use Rattle.std.proofs.lemmas.Str.{is_utf8-from_IsUtf8, chars-encodes}
use Rattle.std.specs.Str.{IsUtf8, is_utf8, chars, encode_utf8_all, bytes_eq}
use Rattle.cic_names.specs.Identifier.{is_word, is_reserved, is_identifier, IsIdentifier}
use Rattle.gal_lexer.specs.declared.token.Mark.{Mark}
use Rattle.gal_lexer.specs.declared.token.Mark.TheVariants as M
use Rattle.gal_lexer.specs.Marks.{first_of, reserved, reserved_of, spelling}
use Rattle.gal_lexer.specs.Words.{Word}
use Rattle.gal_lexer.specs.Pieces.{Identifier}

some_is_none : (m : Mark) → Some m ≡ None → ⊥
some_is_none m e = cc

one : (b : Bool) (m : Mark) (r : Option Mark) → cond b (Some m) r ≡ None → (b ≡ false) × (r ≡ None)
one true m r e = absurd (some_is_none m e)
one false m r e = (refl, e)

-- a word that is no mark is not reserved
free : (w : List ℕ) → reserved_of w ≡ None → is_reserved w ≡ false
free w e =
    let a = one (bytes_eq w (spelling M.Prop)) M.Prop _ e in
    let b = one (bytes_eq w (spelling M.Set)) M.Set _ a.1 in
    let c = one (bytes_eq w (spelling M.Typ)) M.Typ _ b.1 in
    let d = one (bytes_eq w (spelling M.Forall)) M.Forall _ c.1 in
    let f = one (bytes_eq w (spelling M.Fun)) M.Fun _ d.1 in
    let g = one (bytes_eq w (spelling M.Let)) M.Let _ f.1 in
    let h = one (bytes_eq w (spelling M.In)) M.In _ g.1 in
    let i = one (bytes_eq w (spelling M.Fix)) M.Fix _ h.1 in
    let j = one (bytes_eq w (spelling M.With)) M.With _ i.1 in
    let k = one (bytes_eq w (spelling M.For)) M.For _ j.1 in
    let l = one (bytes_eq w (spelling M.Match)) M.Match _ k.1 in
    let m = one (bytes_eq w (spelling M.As)) M.As _ l.1 in
    let n = one (bytes_eq w (spelling M.Return)) M.Return _ m.1 in
    let o = one (bytes_eq w (spelling M.End)) M.End _ n.1 in
    let p = one (bytes_eq w (spelling M.Blank)) M.Blank _ o.1 in
    rw (a.0, b.0, c.0, d.0, f.0, g.0, h.0, i.0, j.0, k.0, l.0, m.0, n.0, o.0, p.0) refl

identifier_of : (w cs : List ℕ) → IsUtf8 w → chars w ≡ cs → is_word cs ≡ true → is_reserved w ≡ false → IsIdentifier w
identifier_of w cs u c h r =
    ap (λ b. b && is_word (chars w) && not (is_reserved w)) (is_utf8-from_IsUtf8 w u)
    ∙ ap (λ b. true && b && not (is_reserved w)) (ap is_word c ∙ h)
    ∙ ap not r

pub identifier_is_name : (n : ℕ) (s : List ℕ) → Identifier n s → IsIdentifier (take n s)
identifier_is_name n s i =
    let w = i.word in
    let e : encode_utf8_all w.characters ≡ take n s = sym (ap (take n) w.spells ∙ take_at (encode_utf8_all w.characters) (drop n s) n w.width) in
    identifier_of (take n s) w.characters (w.characters, (w.scalars, e)) (sym (ap chars e) ∙ chars-encodes w.characters w.scalars) w.word (free (take n s) i.free)
