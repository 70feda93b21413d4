-- Names of the examples.
use Rattle.std.specs.Prelude.{◌≡◌, codes, true}
use Rattle.std.specs.Str.{chars, is_utf8}
use Rattle.gal_scoping.specs.Names.{is_name}
use Rattle.std.proofs.Common.{refl}

pub x_is_name : is_name (codes "x") ≡ true
unfolding is_utf8 chars lib.Utf8.encode
x_is_name = refl

pub y_is_name : is_name (codes "y") ≡ true
unfolding is_utf8 chars lib.Utf8.encode
y_is_name = refl
