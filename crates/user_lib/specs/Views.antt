-- What comes next as contracts see it: without the room of lists.
use Rattle.user_lib.specs.declared.next.Next.{Next}
use Rattle.user_lib.specs.declared.next.Next.TheVariants as next
use Rattle.region_model.specs.UserNext.{NextAnswer, Job, Note, Nothing}

abbrev pub next_data : Next → NextAnswer
next_data (next.Job job) = Job job
next_data (next.Note type_ ids) = Note type_ ids.items
next_data next.Nothing = Nothing
