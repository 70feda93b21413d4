-- A term is read part by part, and where a part is missing none begins: by the laws on what must follow the parts
-- that were read. So the reader of terms is exact both ways.
use Rattle.std.proofs.Common.{ℕ, List, ◌-◌, sym, ◌∙◌, subst}
use Rattle.std.proofs.lemmas.Result.{err_from_is_err_and}
use Rattle.std.specs.Prelude.{codes}
use Rattle.gal_parser.specs.Tokens.{after_blanks, SpellsIdentifier, SpellsSymbol}
use Rattle.gal_parser.specs.Grammar.{arrow, SpellsTerm, spells_arrow, spells_atom, SpellsAtom, spells_prop, spells_name, spells_group}
use Rattle.gal_parser.specs.calls.Reading.{ReadsOrLacks, Lacks, spells_binding}
use Rattle.gal_parser.specs.Views.{raw_term}
use Rattle.gal_parser.proofs.GrammarLaws.{lacks_part}
use Rattle.gal_parser.proofs.TermParts.{has_room, takes_binding, atom_of, target_of, colon_of, type_of, comma_of, body_of, inner_of, closing_of, name_of}
use Rattle.gal_parser.proofs.parser.+terms.Goals as goal

pub atom-returns-then-takes_keyword : goal.atom-returns-then-takes_keyword
atom-returns-then-takes_keyword t c = spells_prop c.if-takes_keyword.ensures

pub atom-returns-in_err-inner : goal.atom-returns-in_err-inner
atom-returns-in_err-inner t c =
    let p = err_from_is_err_and c.from_residual.result c.from_residual.ensures.1 in
    let opens = subst (λ z. SpellsSymbol (codes "(") (after_blanks z) c.takes_symbol.new.self.rest.now) c.if-takes_keyword.ensures.1 c.if-takes_symbol.ensures in
    rw (p.1, p.2) (lacks_part c.in_err-inner.field-0.0 c.in_err-inner.ensures (λ r z w. inner_of opens w))

pub atom-returns-in_err-symbol : goal.atom-returns-in_err-symbol
atom-returns-in_err-symbol t c =
    let p = err_from_is_err_and c.from_residual-in_err-symbol.result c.from_residual-in_err-symbol.ensures.1 in
    let opens = subst (λ z. SpellsSymbol (codes "(") (after_blanks z) c.takes_symbol.new.self.rest.now) c.if-takes_keyword.ensures.1 c.if-takes_symbol.ensures in
    rw (p.1, p.2) (lacks_part c.in_err-symbol.field-0.0 c.in_err-symbol.ensures (λ r z w. (r, tt, closing_of opens c.in_ok-inner.ensures w)))

pub atom-returns-then-takes_symbol : goal.atom-returns-then-takes_symbol
atom-returns-then-takes_symbol t c =
    let opens = subst (λ z. SpellsSymbol (codes "(") (after_blanks z) c.takes_symbol.new.self.rest.now) c.if-takes_keyword.ensures.1 c.if-takes_symbol.ensures in
    spells_group opens c.in_ok-inner.ensures c.in_ok-symbol.ensures

pub atom-returns-in_err-name : goal.atom-returns-in_err-name
atom-returns-in_err-name t c =
    let p = err_from_is_err_and c.from_residual-in_err-name.result c.from_residual-in_err-name.ensures.1 in
    let start = c.if-takes_symbol.ensures.1 ∙ c.if-takes_keyword.ensures.1 in
    let no_name = subst (λ z. Lacks c.in_err-name.field-0.0 (λ r x. SpellsIdentifier (after_blanks z) r x)) start c.in_err-name.ensures in
    let no_group = subst (λ z. (a : List ℕ) → SpellsSymbol (codes "(") (after_blanks z) a → ⊥) c.if-takes_keyword.ensures.1 c.if-takes_symbol.ensures.0 in
    rw (p.1, p.2) (lacks_part c.in_err-name.field-0.0 no_name (λ r z w. let (x, h) = name_of c.if-takes_keyword.ensures.0 no_group w in (r, x, h)))

pub atom-returns : goal.atom-returns
atom-returns t c =
    let start = c.if-takes_symbol.ensures.1 ∙ c.if-takes_keyword.ensures.1 in
    spells_name (subst (λ z. SpellsIdentifier (after_blanks z) c.identifier.new.self.rest.now c.in_ok-name.name) start c.in_ok-name.ensures)

pub binding-returns-in_err-colon : goal.binding-returns-in_err-colon
binding-returns-in_err-colon t c =
    let p = err_from_is_err_and c.from_residual-in_err-colon.result c.from_residual-in_err-colon.ensures.1 in
    rw (p.1, p.2) (lacks_part c.in_err-colon.field-0.0 c.in_err-colon.ensures (λ r z w.
    let (b, h) = colon_of c.in_ok-binder.ensures w in (b, tt, h)))

pub binding-returns-in_err-ty : goal.binding-returns-in_err-ty
binding-returns-in_err-ty t c =
    let p = err_from_is_err_and c.from_residual-in_err-ty.result c.from_residual-in_err-ty.ensures.1 in
    rw (p.1, p.2) (lacks_part c.in_err-ty.field-0.0 c.in_err-ty.ensures (λ r z w. type_of c.in_ok-binder.ensures c.in_ok-colon.ensures w))

pub binding-returns-in_err-symbol : goal.binding-returns-in_err-symbol
binding-returns-in_err-symbol t c =
    let p = err_from_is_err_and c.from_residual-in_err-symbol.result c.from_residual-in_err-symbol.ensures.1 in
    rw (p.1, p.2) (lacks_part c.in_err-symbol.field-0.0 c.in_err-symbol.ensures (λ r z w.
    let (d, h) = comma_of c.in_ok-binder.ensures c.in_ok-colon.ensures c.in_ok-ty.ensures w in (d, tt, h)))

pub binding-returns-in_err-body : goal.binding-returns-in_err-body
binding-returns-in_err-body t c =
    let p = err_from_is_err_and c.from_residual-in_err-body.result c.from_residual-in_err-body.ensures.1 in
    rw (p.1, p.2) (lacks_part c.in_err-body.field-0.0 c.in_err-body.ensures (λ r z w.
    body_of c.in_ok-binder.ensures c.in_ok-colon.ensures c.in_ok-ty.ensures c.in_ok-symbol.ensures w))

pub binding-returns : goal.binding-returns
binding-returns t c = rw (c.binder.view_is, c.in_ok-new.ensures.ok, c.in_ok-new-2.ensures.ok)
    (spells_binding c.in_ok-binder.ensures c.in_ok-colon.ensures c.in_ok-ty.ensures c.in_ok-symbol.ensures c.in_ok-body.ensures)

pub term-returns-then-takes_keyword : goal.term-returns-then-takes_keyword
term-returns-then-takes_keyword t c =
    subst (λ n. ReadsOrLacks (SpellsTerm n) raw_term c.binding.result c.args.reader.now.rest.now c.binding.new.reader.rest.now) (has_room c.args.room c.if-room-eq0.false)
    (takes_binding (c.args.room - 1) raw_term c.binding.result _ _ _ c.if-takes_keyword.ensures c.binding.ensures)

pub term-returns-in_err-from : goal.term-returns-in_err-from
term-returns-in_err-from t c =
    let p = err_from_is_err_and c.from_residual.result c.from_residual.ensures.1 in
    let none = subst (λ z. Lacks c.in_err-from.field-0.0 (SpellsAtom (c.args.room - 1) z)) c.if-takes_keyword.ensures.1 c.in_err-from.ensures in
    rw (p.1, p.2) (subst (λ n. Lacks c.in_err-from.field-0.0 (SpellsTerm n c.args.reader.now.rest.now)) (has_room c.args.room c.if-room-eq0.false)
    (lacks_part c.in_err-from.field-0.0 none (λ r z w. atom_of c.if-takes_keyword.ensures.0 w)))

pub term-returns-in_err-to : goal.term-returns-in_err-to
term-returns-in_err-to t c =
    let p = err_from_is_err_and c.from_residual-in_err-to.result c.from_residual-in_err-to.ensures.1 in
    let from = subst (λ z. SpellsAtom (c.args.room - 1) z c.atom.new.reader.rest.now (raw_term c.in_ok-from.from)) c.if-takes_keyword.ensures.1 c.in_ok-from.ensures in
    rw (p.1, p.2) (subst (λ n. Lacks c.in_err-to.field-0.0 (SpellsTerm n c.args.reader.now.rest.now)) (has_room c.args.room c.if-room-eq0.false)
    (lacks_part c.in_err-to.field-0.0 c.in_err-to.ensures (λ r z w. target_of from c.if-takes_symbol.ensures w)))

pub term-returns-then-takes_symbol : goal.term-returns-then-takes_symbol
term-returns-then-takes_symbol t c =
    let from = subst (λ z. SpellsAtom (c.args.room - 1) z c.atom.new.reader.rest.now (raw_term c.in_ok-from.from)) c.if-takes_keyword.ensures.1 c.in_ok-from.ensures in
    rw (c.in_ok-new.ensures.ok, c.in_ok-new-2.ensures.ok)
    (subst (λ n. SpellsTerm n c.args.reader.now.rest.now c.term.new.reader.rest.now (arrow (raw_term c.in_ok-from.from) (raw_term c.in_ok-to.to))) (has_room c.args.room c.if-room-eq0.false)
    (spells_arrow from c.if-takes_symbol.ensures c.in_ok-to.ensures))

pub term-returns : goal.term-returns
term-returns t c =
    let from = subst (λ z. SpellsAtom (c.args.room - 1) z c.atom.new.reader.rest.now (raw_term c.in_ok-from.from)) c.if-takes_keyword.ensures.1 c.in_ok-from.ensures in
    subst (λ z. SpellsTerm c.args.room c.args.reader.now.rest.now z (raw_term c.in_ok-from.from)) (sym c.if-takes_symbol.ensures.1)
    (subst (λ n. SpellsTerm n c.args.reader.now.rest.now c.atom.new.reader.rest.now (raw_term c.in_ok-from.from)) (has_room c.args.room c.if-room-eq0.false)
    (spells_atom from c.if-takes_symbol.ensures.0))
