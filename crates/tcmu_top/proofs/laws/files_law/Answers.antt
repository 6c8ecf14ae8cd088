use Rattle.tcmu_top.proofs.OverFiles.{has_one_known_text, leaves_the_known_files, are_known, leaves_the_same_files}
use Rattle.tcmu_top.proofs.laws.files_law.Goals as goal

pub returns-clause-text : goal.returns-clause-text
returns-clause-text c = has_one_known_text

pub returns-clause-files : goal.returns-clause-files
returns-clause-files c = leaves_the_known_files

pub returns-clause-lossless_text : goal.returns-clause-lossless_text
returns-clause-lossless_text c = are_known

pub returns-clause-lossless_files : goal.returns-clause-lossless_files
returns-clause-lossless_files c = leaves_the_same_files
