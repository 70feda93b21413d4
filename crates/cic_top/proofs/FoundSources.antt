-- What a folder's answers on the size and the bytes of a source tell of its contents.
use Rattle.std.proofs.Common.{◌≡◌, ℕ, ◌<◌, List, [], length, refl, sym, ap, ◌∙◌}
use Rattle.std.specs.Prelude.{Option, Some, None, replicate, unwrap_or, Vec}
use Rattle.std.specs.declared.alloc.Global.{Global}
use Rattle.std.proofs.lemmas.List.{length-replicate}
use Rattle.std.proofs.Math.Seq.{take-length}
use Rattle.std.specs.Option.{option_map}
use Rattle.cic_io.specs.Files.{Files, file_at, bytes_from}
use Rattle.cic_io.specs.Reading.{SizeTold, WholeTold}
use Rattle.gal_parser.specs.Grammar.{longest_source}
use Rattle.cic_top.specs.calls.Sources.{FoundUnder}
use Rattle.cic_top.specs.declared.source.Source.TheVariants.{Absent, Long, Text}

no_length-none : (bytes : Option (List ℕ)) → None ≡ option_map length bytes → bytes ≡ None
no_length-none None h = refl
no_length-none (Some b) h = cc

length-some : (bytes : Option (List ℕ)) (size : ℕ) → Some size ≡ option_map length bytes → (b : List ℕ) × (bytes ≡ Some b) × (size ≡ length b)
length-some None size h = cc
length-some (Some b) size h = (b, refl, cc)

pub found-absent : (told : Option Files) (name : List ℕ) → SizeTold told name None → FoundUnder told name Absent
found-absent None name h = record { content = λ _. None; describes = refl; of_folder = tt }
found-absent (Some fs) name h = record { content = file_at fs; describes = no_length-none (file_at fs name) h; of_folder = refl }

pub found-long : (told : Option Files) (name : List ℕ) (size : ℕ) → SizeTold told name (Some size) → longest_source < size → FoundUnder told name (Long size)
found-long None name size h long = record { content = λ _. Some (replicate size 32); describes = (replicate size 32, refl, rw length-replicate long); of_folder = tt }
found-long (Some fs) name size h long =
    let found = length-some (file_at fs name) size h in
    record { content = file_at fs; describes = (found.0, found.1, rw (← found.2) long); of_folder = refl }

whole_file : (bytes : List ℕ) → bytes_from bytes 0 (length bytes) ≡ bytes
whole_file bytes = take-length bytes

text-some : (bytes : Option (List ℕ)) (size : ℕ) (text : List ℕ) → Some size ≡ option_map length bytes →
    text ≡ bytes_from (unwrap_or bytes []) 0 size → bytes ≡ Some text
text-some None size text h whole = cc
text-some (Some b) size text h whole =
    let same : size ≡ length b = cc in
    let all : text ≡ b = (rw same at whole) ∙ whole_file b in
    ap Some (sym all)

pub found-text : (told : Option Files) (name : List ℕ) (size : ℕ) (text : Vec ℕ Global) → SizeTold told name (Some size) → WholeTold told name size text.items → FoundUnder told name (Text text)
found-text None name size text h whole = record { content = λ _. Some text.items; describes = refl; of_folder = tt }
found-text (Some fs) name size text h whole =
    record { content = file_at fs; describes = text-some (file_at fs name) size text.items h whole; of_folder = refl }
