-- One read more makes the front of the file longer, and takes its bytes.
use Rattle.std.proofs.Common.{◌∙◌, ◌-◌, ◌≡◌, length, take, drop, arith}
use Rattle.std.proofs.lemmas.List.{length-take, length-drop}
use borrow.Rule.Slice.PartMut.{put_mid, same_len_mid}
use Rattle.cic_io.proofs.Fronts.{WholeTold-more, RisesBy-more}
use Rattle.cic_io.proofs.whole.fill.Goals as goal

pub loop-read-preserved : goal.loop-read-preserved
loop-read-preserved g c =
    let read = c.in_ok-count.ensures in
    let before = c.loop-read.invariant in
    let files : g.F.Folder.files c.loop-read.folder ≡ g.F.Folder.files c.args.folder.now = before.files in
    let at = c.loop-read.read in
    let room = length c.loop-read.into - at in
    let part = take room (drop at c.loop-read.into) in
    let same_part : length c.read_at.new.into ≡ length part = c.read_at.auto.into in
    let same : length (put_mid at room c.loop-read.into c.read_at.new.into) ≡ length c.loop-read.into
    = same_len_mid at room c.loop-read.into c.read_at.new.into same_part in
    record {
      within = omega (arith, length-take room (drop at c.loop-read.into), length-drop at c.loop-read.into);
      told =
          WholeTold-more (g.F.Folder.files c.args.folder.now) c.args.name.now at room (length part) c.in_ok-count.count c.loop-read.into c.read_at.new.into
          before.within (omega arith) before.told (rw files at read.told);
      quiet = read.quiet ∙ before.quiet;
      files = read.files ∙ before.files;
      taken = RisesBy-more _ _ _ _ _ before.taken read.taken;
    }
