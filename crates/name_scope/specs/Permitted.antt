-- What is kept of the libraries whose names may be written.
use Rattle.std.specs.Prelude.{◌≡◌, List, map}
use Rattle.std.specs.Rc.{rc_str_bytes}
use Rattle.gal_scoping.specs.Scopes.{Allowed}
use Rattle.name_scope.specs.Tables.{Text, texts}
use Rattle.name_scope.specs.declared.library.Library.{Library}

abbrev pub allowed_of : List (Text × Library) → List Allowed
allowed_of es = map (λ e. record { library = rc_str_bytes e.0; levels = e.1.levels }) es

-- Libraries are kept under their names.
abbrev pub AreNamed : List (Text × Library) → Type 0
AreNamed es = map (λ e. e.1.name) es ≡ texts es
