-- What is wanted by kinds of values: each row of the grammar leads where its kind does.
use Rattle.std.proofs.Common.{ℕ, suc, Bool, true, false, List, [], ◌∷◌, ◌++◌, ◌≡◌, Option, Some, None, not, refl, ap, sym, codes, true≢false}
use Rattle.std.specs.Str.{bytes_eq}
use Rattle.std.proofs.lemmas.Option.{same_Some}
use Rattle.gal_lexer.specs.declared.token.Mark.TheVariants as M
use Rattle.gal_lexer.specs.Marks.{spelling}
use Rattle.gal_grammar.specs.Tests.{Test, mark, word, ident, qualid, name}
use Rattle.gal_grammar.specs.Kinds.{Row, row, Kind, Want, tok, act, nt, fix_tail, k_file, k_commands, k_definition, k_required, k_quals, k_level, k_relation, k_conses, k_assums, k_idents, k_bounds, k_bound_groups, k_names, k_groups, k_some_groups, k_binders, k_function, k_struct, k_fixpoints, k_ind, k_inds, k_ctors, k_ctors_behind, k_more_ctors, k_ctor, k_ctor_type, k_proof, k_proof_body, k_using, k_ending, k_qed, k_term, k_atom, k_tail, k_type_level, k_functions, k_as, k_in, k_with, k_with_any, k_branches, k_any_branches, k_branch, k_more_branches}
use Rattle.gal_grammar.specs.Rules.{rules, may_be_none}
use Rattle.gal_lines.specs.Sentences.{is_proof_word}
use Rattle.gal_lines.proofs.Tags.{Tag, act_tags, no_count, t_binder, t_binders, t_branches, t_commands, t_conses, t_ctors, t_flag, t_functions, t_groups, t_inds, t_level, t_maybe_binder, t_maybe_name, t_maybe_term, t_maybe_within, t_name, t_names, t_proof, t_qual, t_quals, t_relation, t_term, t_using}

-- behind a kind: whether a sentence begins there, and the values
abbrev pub Behind : Type 0
Behind = Option (Bool × List Tag)

abbrev pub kind_tags : Kind → Bool → List Tag → Behind
kind_tags k_required false (t_flag ∷ σ) = Some (false, t_quals ∷ t_flag ∷ σ)
kind_tags k_quals false (t_quals ∷ σ) = Some (false, t_quals ∷ σ)
kind_tags k_level false σ = Some (false, t_level ∷ σ)
kind_tags k_relation false σ = Some (false, t_relation ∷ σ)
kind_tags k_conses false (t_conses ∷ σ) = Some (false, t_conses ∷ σ)
kind_tags k_assums false (t_groups ∷ σ) = Some (false, t_groups ∷ σ)
kind_tags k_idents false (t_names ∷ σ) = Some (false, t_names ∷ σ)
kind_tags k_bounds false (t_binders ∷ σ) = Some (false, t_binders ∷ σ)
kind_tags k_bound_groups false (t_groups ∷ σ) = Some (false, t_groups ∷ σ)
kind_tags k_names false (t_binders ∷ σ) = Some (false, t_binders ∷ σ)
kind_tags k_groups false (t_groups ∷ σ) = Some (false, t_groups ∷ σ)
kind_tags k_some_groups false (t_groups ∷ σ) = Some (false, t_groups ∷ σ)
kind_tags k_binders false (t_groups ∷ σ) = Some (false, t_groups ∷ σ)
kind_tags k_function false (t_functions ∷ σ) = Some (false, t_functions ∷ σ)
kind_tags k_struct false (t_maybe_name ∷ σ) = Some (false, t_maybe_name ∷ σ)
kind_tags k_fixpoints false (t_functions ∷ σ) = Some (false, t_functions ∷ σ)
kind_tags k_ind false (t_inds ∷ σ) = Some (false, t_inds ∷ σ)
kind_tags k_inds false (t_inds ∷ σ) = Some (false, t_inds ∷ σ)
kind_tags k_ctors false (t_ctors ∷ σ) = Some (false, t_ctors ∷ σ)
kind_tags k_ctors_behind false (t_ctors ∷ σ) = Some (false, t_ctors ∷ σ)
kind_tags k_more_ctors false (t_ctors ∷ σ) = Some (false, t_ctors ∷ σ)
kind_tags k_ctor false (t_ctors ∷ σ) = Some (false, t_ctors ∷ σ)
kind_tags k_ctor_type false (t_maybe_term ∷ σ) = Some (false, t_maybe_term ∷ σ)
kind_tags k_proof true (t_using ∷ σ) = Some (true, t_proof ∷ σ)
kind_tags k_proof_body false (t_using ∷ σ) = Some (true, t_proof ∷ σ)
kind_tags k_using false (t_using ∷ σ) = Some (false, t_using ∷ σ)
kind_tags k_ending true (t_using ∷ σ) = Some (true, t_proof ∷ σ)
kind_tags k_qed true (t_term ∷ t_using ∷ σ) = Some (true, t_proof ∷ σ)
kind_tags k_term false σ = Some (false, t_term ∷ σ)
kind_tags k_atom false σ = Some (false, t_term ∷ σ)
kind_tags k_tail false (t_term ∷ σ) = Some (false, t_term ∷ σ)
kind_tags k_type_level false (t_term ∷ σ) = Some (false, t_term ∷ σ)
kind_tags k_functions false (t_functions ∷ t_maybe_name ∷ σ) = Some (false, t_functions ∷ t_maybe_name ∷ σ)
kind_tags k_as false (t_maybe_binder ∷ σ) = Some (false, t_maybe_binder ∷ σ)
kind_tags k_in false (t_maybe_within ∷ σ) = Some (false, t_branches ∷ t_term ∷ t_maybe_within ∷ σ)
kind_tags k_with false σ = Some (false, t_branches ∷ σ)
kind_tags k_with_any false σ = Some (false, t_branches ∷ σ)
kind_tags k_branches false (t_branches ∷ σ) = Some (false, t_branches ∷ σ)
kind_tags k_any_branches false (t_branches ∷ σ) = Some (false, t_branches ∷ σ)
kind_tags k_branch false (t_branches ∷ σ) = Some (false, t_branches ∷ σ)
kind_tags k_more_branches false (t_branches ∷ σ) = Some (false, t_branches ∷ σ)
kind_tags k_definition false (t_term ∷ t_groups ∷ t_name ∷ t_commands n ∷ σ) = Some (true, t_commands (suc n) ∷ σ)
kind_tags _ _ _ = None

abbrev pub stops : Test → Bool
stops (mark m) = bytes_eq (spelling M.Stop) (spelling m)
stops _ = false

abbrev pub tok_tags : Test → List Tag
tok_tags ident = t_name ∷ []
tok_tags qualid = t_qual ∷ []
tok_tags name = t_binder ∷ []
tok_tags _ = []

-- whether a token that passes begins a command, where a sentence begins or not
abbrev pub opens : Bool → Test → Option Bool
opens false c = Some false
opens true (word w) = Some (not (is_proof_word (codes w)))
opens true _ = None

abbrev pub opens_none : Option Bool → Option ℕ → Option ℕ
opens_none (Some false) o = o
opens_none _ o = None

abbrev pub on_tags : Option (List Tag) → (List Tag → Option ℕ) → Option ℕ
on_tags None g = None
on_tags (Some τ) g = g τ

abbrev pub on_kind : Behind → (Bool → List Tag → Option ℕ) → Option ℕ
on_kind None g = None
on_kind (Some (b, τ)) g = g b τ

abbrev pub at_last : Bool → List Tag → List Want → Option ℕ
at_last true (t_commands n ∷ []) [] = Some n
at_last _ _ _ = None

-- how many commands there are at the end, if no further one begins
abbrev pub check : List Want → Bool → List Tag → Option ℕ
check [] b σ = at_last b σ []
check (tok c ∷ k) b σ = opens_none (opens b c) (check k (stops c) (tok_tags c ++ σ))
check (act a ∷ k) b σ = on_tags (act_tags a σ) (λ τ. check k b τ)
check (fix_tail d ∷ k) false (t_functions ∷ t_maybe_name ∷ σ) = check k false (t_functions ∷ t_maybe_name ∷ σ)
check (fix_tail d ∷ k) b σ = None
check (nt d k_file ∷ k) b σ = at_last b σ k
check (nt d k_commands ∷ k) b σ = at_last b σ k
check (nt d n ∷ k) b σ = on_kind (kind_tags n b σ) (λ c τ. check k c τ)

abbrev pub count_if : Bool → ℕ → ℕ
count_if true n = suc n
count_if false n = n

abbrev pub RowFits : Test → List Want → Bool → List Tag → ℕ → List Want → Type 0
RowFits c p b σ N k = (o : Bool) × (opens b c ≡ Some o) × (check (p ++ k) (stops c) (tok_tags c ++ σ) ≡ Some (count_if o N))

abbrev pub AllFit : List Row → Bool → List Tag → ℕ → List Want → Type 0
AllFit [] b σ N k = Unit {0}
AllFit (row c p ∷ rs) b σ N k = RowFits c p b σ N k × (AllFit rs b σ N k)

pub some_more : (n N : ℕ) → Some n ≡ Some N → Some (suc n) ≡ Some (suc N)
some_more n N e = ap (λ x. Some (suc x)) (same_Some n N e)

pub rows_fit : (d : ℕ) (n : Kind) (b : Bool) (σ : List Tag) (k : List Want) (N : ℕ) → check (nt d n ∷ k) b σ ≡ Some N → AllFit (rules d n) b σ N k
rows_fit d k_required false (t_flag ∷ σ) k N e = ((false, refl, e), ((false, refl, e), ((false, refl, e), tt)))
rows_fit d k_quals false (t_quals ∷ σ) k N e = ((false, refl, e), tt)
rows_fit d k_level false σ k N e = ((false, refl, e), ((false, refl, e), tt))
rows_fit d k_relation false σ k N e = ((false, refl, e), ((false, refl, e), ((false, refl, e), tt)))
rows_fit d k_conses false (t_conses ∷ σ) k N e = ((false, refl, e), tt)
rows_fit d k_assums false (t_groups ∷ σ) k N e = ((false, refl, e), ((false, refl, e), tt))
rows_fit d k_idents false (t_names ∷ σ) k N e = ((false, refl, e), tt)
rows_fit d k_bounds false (t_binders ∷ σ) k N e = ((false, refl, e), tt)
rows_fit d k_bound_groups false (t_groups ∷ σ) k N e = ((false, refl, e), tt)
rows_fit d k_names false (t_binders ∷ σ) k N e = ((false, refl, e), tt)
rows_fit d k_groups false (t_groups ∷ σ) k N e = ((false, refl, e), tt)
rows_fit d k_some_groups false (t_groups ∷ σ) k N e = ((false, refl, e), tt)
rows_fit d k_binders false (t_groups ∷ σ) k N e = ((false, refl, e), ((false, refl, e), tt))
rows_fit d k_function false (t_functions ∷ σ) k N e = ((false, refl, e), tt)
rows_fit d k_struct false (t_maybe_name ∷ σ) k N e = ((false, refl, e), tt)
rows_fit d k_fixpoints false (t_functions ∷ σ) k N e = ((false, refl, e), tt)
rows_fit d k_ind false (t_inds ∷ σ) k N e = ((false, refl, e), tt)
rows_fit d k_inds false (t_inds ∷ σ) k N e = ((false, refl, e), tt)
rows_fit d k_ctors false (t_ctors ∷ σ) k N e = ((false, refl, e), ((false, refl, e), tt))
rows_fit d k_ctors_behind false (t_ctors ∷ σ) k N e = ((false, refl, e), tt)
rows_fit d k_more_ctors false (t_ctors ∷ σ) k N e = ((false, refl, e), tt)
rows_fit d k_ctor false (t_ctors ∷ σ) k N e = ((false, refl, e), tt)
rows_fit d k_ctor_type false (t_maybe_term ∷ σ) k N e = ((false, refl, e), tt)
rows_fit d k_proof true (t_using ∷ σ) k N e = ((false, refl, e), ((false, refl, e), ((false, refl, e), tt)))
rows_fit d k_proof_body false (t_using ∷ σ) k N e = ((false, refl, e), ((false, refl, e), ((false, refl, e), ((false, refl, e), ((false, refl, e), ((false, refl, e), ((false, refl, e), ((false, refl, e), ((false, refl, e), ((false, refl, e), ((false, refl, e), ((false, refl, e), ((false, refl, e), tt)))))))))))))
rows_fit d k_using false (t_using ∷ σ) k N e = ((false, refl, e), ((false, refl, e), ((false, refl, e), tt)))
rows_fit d k_ending true (t_using ∷ σ) k N e = ((false, refl, e), ((false, refl, e), tt))
rows_fit d k_qed true (t_term ∷ t_using ∷ σ) k N e = ((false, refl, e), ((false, refl, e), ((false, refl, e), tt)))
rows_fit d k_term false σ k N e = ((false, refl, e), ((false, refl, e), ((false, refl, e), ((false, refl, e), ((false, refl, e), ((false, refl, e), ((false, refl, e), ((false, refl, e), ((false, refl, e), ((false, refl, e), ((false, refl, e), tt)))))))))))
rows_fit d k_atom false σ k N e = ((false, refl, e), ((false, refl, e), ((false, refl, e), ((false, refl, e), ((false, refl, e), ((false, refl, e), ((false, refl, e), tt)))))))
rows_fit d k_tail false (t_term ∷ σ) k N e = ((false, refl, e), ((false, refl, e), ((false, refl, e), ((false, refl, e), ((false, refl, e), ((false, refl, e), ((false, refl, e), ((false, refl, e), tt))))))))
rows_fit d k_type_level false (t_term ∷ σ) k N e = ((false, refl, e), tt)
rows_fit d k_functions false (t_functions ∷ t_maybe_name ∷ σ) k N e = ((false, refl, e), ((false, refl, e), tt))
rows_fit d k_as false (t_maybe_binder ∷ σ) k N e = ((false, refl, e), tt)
rows_fit d k_in false (t_maybe_within ∷ σ) k N e = ((false, refl, e), ((false, refl, e), tt))
rows_fit d k_with false σ k N e = ((false, refl, e), tt)
rows_fit d k_with_any false σ k N e = ((false, refl, e), tt)
rows_fit d k_branches false (t_branches ∷ σ) k N e = ((false, refl, e), ((false, refl, e), tt))
rows_fit d k_any_branches false (t_branches ∷ σ) k N e = ((false, refl, e), ((false, refl, e), ((false, refl, e), tt)))
rows_fit d k_branch false (t_branches ∷ σ) k N e = ((false, refl, e), tt)
rows_fit d k_more_branches false (t_branches ∷ σ) k N e = ((false, refl, e), ((false, refl, e), tt))
rows_fit d k_definition false (t_term ∷ t_groups ∷ t_name ∷ t_commands n ∷ σ) k N e = ((false, refl, e), ((false, refl, e), tt))
rows_fit d k_commands true (t_commands n ∷ []) [] N e = let f = some_more n N e in ((true, refl, f), ((true, refl, f), ((true, refl, f), ((true, refl, f), ((true, refl, f), ((true, refl, f), ((true, refl, f), ((true, refl, f), ((true, refl, f), ((true, refl, f), ((true, refl, f), ((true, refl, f), ((true, refl, f), ((true, refl, f), ((true, refl, f), ((true, refl, f), ((true, refl, f), ((true, refl, f), ((true, refl, f), ((true, refl, f), ((true, refl, f), ((true, refl, f), ((true, refl, f), ((true, refl, f), ((true, refl, f), tt)))))))))))))))))))))))))
rows_fit d k_file true (t_commands n ∷ []) [] N e = let f = some_more n N e in ((true, refl, f), ((true, refl, f), ((true, refl, f), ((true, refl, f), ((true, refl, f), ((true, refl, f), ((true, refl, f), ((true, refl, f), ((true, refl, f), ((true, refl, f), ((true, refl, f), ((true, refl, f), ((true, refl, f), ((true, refl, f), ((true, refl, f), ((true, refl, f), ((true, refl, f), ((true, refl, f), ((true, refl, f), ((true, refl, f), ((true, refl, f), ((true, refl, f), ((true, refl, f), ((true, refl, f), ((true, refl, f), ((true, refl, f), ((true, refl, f), tt)))))))))))))))))))))))))))
rows_fit d n b σ k N e = absurd (no_count N e)

pub none_fits : (d : ℕ) (n : Kind) (b : Bool) (σ : List Tag) (k : List Want) (N : ℕ) → may_be_none n ≡ true → check (nt d n ∷ k) b σ ≡ Some N → check k b σ ≡ Some N
none_fits d k_quals false (t_quals ∷ σ) k N m e = e
none_fits d k_conses false (t_conses ∷ σ) k N m e = e
none_fits d k_idents false (t_names ∷ σ) k N m e = e
none_fits d k_bounds false (t_binders ∷ σ) k N m e = e
none_fits d k_bound_groups false (t_groups ∷ σ) k N m e = e
none_fits d k_names false (t_binders ∷ σ) k N m e = e
none_fits d k_groups false (t_groups ∷ σ) k N m e = e
none_fits d k_struct false (t_maybe_name ∷ σ) k N m e = e
none_fits d k_fixpoints false (t_functions ∷ σ) k N m e = e
none_fits d k_inds false (t_inds ∷ σ) k N m e = e
none_fits d k_ctors false (t_ctors ∷ σ) k N m e = e
none_fits d k_ctors_behind false (t_ctors ∷ σ) k N m e = e
none_fits d k_more_ctors false (t_ctors ∷ σ) k N m e = e
none_fits d k_ctor_type false (t_maybe_term ∷ σ) k N m e = e
none_fits d k_tail false (t_term ∷ σ) k N m e = e
none_fits d k_type_level false (t_term ∷ σ) k N m e = e
none_fits d k_as false (t_maybe_binder ∷ σ) k N m e = e
none_fits d k_commands true (t_commands n ∷ []) [] N m e = e
none_fits d k_file true (t_commands n ∷ []) [] N m e = e
none_fits d k_required b σ k N m e = absurd (true≢false (sym m))
none_fits d k_level b σ k N m e = absurd (true≢false (sym m))
none_fits d k_relation b σ k N m e = absurd (true≢false (sym m))
none_fits d k_assums b σ k N m e = absurd (true≢false (sym m))
none_fits d k_some_groups b σ k N m e = absurd (true≢false (sym m))
none_fits d k_binders b σ k N m e = absurd (true≢false (sym m))
none_fits d k_function b σ k N m e = absurd (true≢false (sym m))
none_fits d k_ind b σ k N m e = absurd (true≢false (sym m))
none_fits d k_ctor b σ k N m e = absurd (true≢false (sym m))
none_fits d k_proof b σ k N m e = absurd (true≢false (sym m))
none_fits d k_proof_body b σ k N m e = absurd (true≢false (sym m))
none_fits d k_using b σ k N m e = absurd (true≢false (sym m))
none_fits d k_ending b σ k N m e = absurd (true≢false (sym m))
none_fits d k_qed b σ k N m e = absurd (true≢false (sym m))
none_fits d k_term b σ k N m e = absurd (true≢false (sym m))
none_fits d k_atom b σ k N m e = absurd (true≢false (sym m))
none_fits d k_functions b σ k N m e = absurd (true≢false (sym m))
none_fits d k_in b σ k N m e = absurd (true≢false (sym m))
none_fits d k_with b σ k N m e = absurd (true≢false (sym m))
none_fits d k_with_any b σ k N m e = absurd (true≢false (sym m))
none_fits d k_branches b σ k N m e = absurd (true≢false (sym m))
none_fits d k_any_branches b σ k N m e = absurd (true≢false (sym m))
none_fits d k_branch b σ k N m e = absurd (true≢false (sym m))
none_fits d k_more_branches b σ k N m e = absurd (true≢false (sym m))
none_fits d k_definition b σ k N m e = absurd (true≢false (sym m))
none_fits d n b σ k N m e = absurd (no_count N e)
