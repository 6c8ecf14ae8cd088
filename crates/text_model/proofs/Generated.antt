-- The load's definitions give what its worked examples say.
use Rattle.std.proofs.Common.{refl}
use Rattle.std.specs.Fmt.{digits}
use Rattle.text_model.specs.Text.{runs, run_text, runs_text, numbers_text, flags_text, medium_text, kind_text, config_text, last_text, settings_text, device_spelling, data_fields, command_text, event_text}
use Rattle.tcmu_types.specs.Hex.{hex_byte}
use Rattle.text_model.specs.Load.{next_random, random_of, load_count, load_lba, load_fill, load_writes, load_cdb, load_command, load_step, load_lines, load_config, load_settings, load_device, summary_text, FirstNumber, FirstCommand, FirstLine, DeviceLine, DrainBehindSixteen, EmptySummary, OneSummary}

pub first_number : FirstNumber
unfolding next_random random_of
first_number = refl

pub first_command : FirstCommand
unfolding next_random random_of load_count load_lba load_fill load_writes load_cdb load_command
first_command = refl

pub first_line : FirstLine
unfolding next_random random_of load_count load_lba load_fill load_writes load_cdb load_command hex_byte runs run_text runs_text data_fields command_text event_text digits
first_line = refl

pub device_line : DeviceLine
unfolding load_config load_settings load_device numbers_text flags_text medium_text kind_text config_text last_text settings_text device_spelling digits
device_line = refl

pub drain_behind_sixteen : DrainBehindSixteen
unfolding load_lines load_step
drain_behind_sixteen = refl

pub empty_summary : EmptySummary
unfolding summary_text digits
empty_summary = refl

pub one_summary : OneSummary
unfolding summary_text digits
one_summary = refl
