-- The event that a note tells.
use Rattle.outside.specs.Events.{Event, Gave, Began, Took, TookOut, TookErr}
use Rattle.outside.specs.declared.call_log.Note.{Note}
use Rattle.outside.specs.declared.call_log.Note.TheVariants as note

-- the event that a note tells
abbrev pub event_of : Note → Event
event_of (note.Gave name at room bytes) = Gave name.now at room bytes.now
event_of (note.Began name) = Began name.now
event_of (note.Took name bytes) = Took name.now bytes.now
event_of (note.TookOut bytes) = TookOut bytes.now
event_of (note.TookErr bytes) = TookErr bytes.now
