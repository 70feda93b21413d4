-- Tables in which values are kept under texts.
use Rattle.std.specs.Prelude.{ℕ, Bool, List, map}
use Rattle.std.specs.Rc.{rc_str_bytes}
use Rattle.std.specs.declared.rc.RcStr.{RcStr}
use Rattle.std.specs.declared.alloc.Global.{Global}
use Rattle.cic_names.specs.Sameness.{same_name}

abbrev pub Text : Type 0
Text = RcStr Global

-- The texts, in order.
abbrev pub texts : {X : Type 0} → List (Text × X) → List (List ℕ)
texts es = map (λ e. rc_str_bytes e.0) es

-- The test by which a text is looked up.
abbrev pub under : List ℕ → Text → Bool
under text key = same_name text (rc_str_bytes key)

abbrev pub same_text : Text → Text → Bool
same_text a b = same_name (rc_str_bytes a) (rc_str_bytes b)
