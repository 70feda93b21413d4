-- What was read so far is the front of the file, no fault was counted, and the bytes taken are those that were read.
use Rattle.std.proofs.Common.{◌≡◌, ◌≤◌, ◌-◌, length, take}
use Rattle.cic_io.specs.Reading.{WholeTold, RisesBy}
use Rattle.cic_io.proofs.whole.fill.Given as goal

abbrev pub invariant-loop-read : goal.invariant-loop-read
invariant-loop-read g l = record {
  within : l.read ≤ length l.into;
  told : WholeTold (g.F.Folder.files l.initial.folder) l.name l.read (take l.read l.into);
  quiet : g.F.Folder.read_faults l.folder ≡ g.F.Folder.read_faults l.initial.folder;
  files : g.F.Folder.files l.folder ≡ g.F.Folder.files l.initial.folder;
  taken : RisesBy (g.F.Folder.taken l.initial.folder) (g.F.Folder.taken l.folder) l.read;
}

abbrev pub decreases-loop-read : goal.decreases-loop-read
decreases-loop-read g l = length l.initial.into - l.read
