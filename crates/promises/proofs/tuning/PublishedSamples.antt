-- The samples of the reference key, as the definitions compute them. Assumes nothing.
use mathlib.Core.Path.{◌≡◌, refl}
use lib.Dec.{lit<}
use lib.IntN.{ℤ, pos}
use lib.Ieee.{le, lt, eq, neg, mul, div, round, size, span, climb, odd, of_bits, of_fields, of_int}
use Rattle.base.specs.Integers.{held}
use Rattle.base.specs.Said.{gives}
use Rattle.explog.specs.Exp.{t_of, p_of}
use Rattle.explog.specs.Log.{b_of, y_of}
use Rattle.explog.specs.Root.{root, root_from}
use Rattle.explog.specs.Rules.{E, L, floor_of, times_power, power_of, log_of, log_at, octaves_of}
use Rattle.key.specs.Keys.{key}
use Rattle.pitch.specs.declared.Pitch.{Pitch}
use Rattle.kbm.specs.Degree.{degree_at}
use Rattle.kbm.specs.Samples.{sample, sample_table}
use Rattle.kbm.specs.Table.{are_entries, entries_of, table_of}
use Rattle.kbm_write.specs.Published as P
use Rattle.relative.specs.Pitches.{root_pitch, pitch_from, pitch_of}
use Rattle.relative.specs.Relative.{periods_of, place_of, relative_pitch_of}
use Rattle.tuning.specs.Keys.{maybe_pitch_of}
use Rattle.tuning.specs.Middle.{maybe_pitch_from_middle}
use Rattle.promises.specs.tuning.PublishedSamples.{concert, exact_kbm, exact_table, seven, rounded_kbm, rounded_table}
use Rattle.promises.specs.tuning.PublishedSamples.{just_below, by_reference, ReferenceSamples}
use Rattle.promises.specs.tuning.Samples.{three}
use Rattle.promises.proofs.kbm.Sounding.{parting}

-- ---- the pitches, by computation
exact : maybe_pitch_from_middle three exact_kbm exact_table (key (pos 69)) ≡ gives concert
unfolding pitch_from root_pitch relative_pitch_of periods_of place_of degree_at are_entries entries_of held le lt eq neg mul div round size span
    climb odd of_bits of_fields of_int t_of p_of b_of y_of root root_from E L floor_of times_power power_of log_of log_at octaves_of
exact = refl

counted_by_reference : maybe_pitch_of three exact_kbm exact_table (key (pos 69)) ≡ gives by_reference
unfolding pitch_of pitch_from root_pitch relative_pitch_of periods_of place_of degree_at are_entries entries_of held le lt eq neg mul div round size
    span climb odd of_bits of_fields of_int t_of p_of b_of y_of root root_from E L floor_of times_power power_of log_of log_at octaves_of
counted_by_reference = refl

rounded : maybe_pitch_from_middle seven rounded_kbm rounded_table (key (pos 61)) ≡ gives just_below
unfolding pitch_from root_pitch relative_pitch_of periods_of place_of degree_at are_entries entries_of held le lt eq neg mul div round size span
    climb odd of_bits of_fields of_int t_of p_of b_of y_of root root_from E L floor_of times_power power_of log_of log_at octaves_of
rounded = refl

pub reference_samples : (pitch : Pitch) → ReferenceSamples pitch
unfolding degree_at are_entries entries_of held
reference_samples pitch =
    record {
      exact_degree = record { near = refl; held = refl; sounds = two_octaves };
      exact = exact;
      counted_by_reference = counted_by_reference;
      rounded_degree = record { near = refl; held = refl; sounds = one_entry };
      rounded = rounded;
      silent_degree = record { near = refl; silent = none };
      silent = refl;
    }
  where
    -- 7 is 2 times 3 and 1 more
    two_octaves : P.Sounds (P.published_of exact_kbm (table_of 3 exact_table)) (pos 69) (pos 7)
    two_octaves = P.Sounds.pattern (pos 2) 1 (pos 1) (record { whole = refl; rest = lit< tt }) refl refl

    one_entry : P.Sounds (P.published_of rounded_kbm (table_of 2 rounded_table)) (pos 61) (pos 1)
    one_entry = P.Sounds.pattern (pos 0) 1 (pos 1) (record { whole = refl; rest = lit< tt }) refl refl

    none : (d : ℤ) → P.Sounds (P.published_of (sample pitch (pos 2)) (table_of 3 sample_table)) (pos 60) d → ⊥
    none = (parting pitch).there60
