-- `telbijan_maybe_pitch_from_middle` meets its contract: what `maybe_pitch_from_middle` answers, stored or coded. Assumes nothing.
use mir.Facts.{to_z-of_z}
use Rattle.pitch.specs.Answers.{says_pitch}
use Rattle.telbijan_answers.specs.Interface.{kept}
use Rattle.telbijan_answers.proofs.Interface.{handed_on}
use Rattle.telbijan_tuning.proofs.middle.telbijan_maybe_pitch_from_middle.Goals as goal

pub returns : goal.returns
returns c =
    let told =
    rw (
      c.new-items.ensures,
      c.mapping_with-kbm.ensures,
      to_z-of_z c.ranges.start,
      to_z-of_z c.ranges.end,
      to_z-of_z c.ranges.reference,
      to_z-of_z c.ranges.offset,
      to_z-of_z c.ranges.octave,
      to_z-of_z c.ranges.number,
    ) at c.maybe_pitch_from_middle.ensures in
    handed_on says_pitch (λ s. kept s c.args.pitch.now) c.maybe_pitch_from_middle.result told c.store_pitch.ensures
