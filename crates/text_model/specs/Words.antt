-- The words of scenarios: those that lines begin with, those of media, and those of faults.
use Rattle.std.specs.Prelude.{ℕ, List, Option, Some, None, if◌then◌else◌, codes, bytes_eq}
use Rattle.text_model.specs.declared.faults.Why.{Why}
use Rattle.text_model.specs.declared.faults.Why.TheVariants as why
use Rattle.text_model.specs.declared.words.Verb.{Verb}
use Rattle.text_model.specs.declared.words.Verb.TheVariants as verb
use Rattle.text_model.specs.declared.words.Subtype.{Subtype}
use Rattle.text_model.specs.declared.words.Subtype.TheVariants as subtype

unfoldable pub verb_of : List ℕ → Option Verb
verb_of word =
    if bytes_eq word (codes "device") then Some verb.Device
    else (if bytes_eq word (codes "submit") then Some verb.Submit
    else (if bytes_eq word (codes "dispatch") then Some verb.Dispatch
    else (if bytes_eq word (codes "handle") then Some verb.Handle
    else (if bytes_eq word (codes "respond") then Some verb.Respond
    else (if bytes_eq word (codes "publish") then Some verb.Publish
    else (if bytes_eq word (codes "clean") then Some verb.Clean
    else (if bytes_eq word (codes "enter") then Some verb.Enter
    else (if bytes_eq word (codes "tick") then Some verb.Tick
    else (if bytes_eq word (codes "block") then Some verb.Block
    else (if bytes_eq word (codes "unblock") then Some verb.Unblock
    else (if bytes_eq word (codes "reset") then Some verb.Reset
    else (if bytes_eq word (codes "restart") then Some verb.Restart
    else (if bytes_eq word (codes "tmr") then Some verb.Tmr
    else (if bytes_eq word (codes "stat") then Some verb.Stat
    else (if bytes_eq word (codes "dump") then Some verb.Dump
    else (if bytes_eq word (codes "drain") then Some verb.Drain else None))))))))))))))))

unfoldable pub subtype_of : List ℕ → Option Subtype
subtype_of word =
    if bytes_eq word (codes "mem") then Some subtype.Mem
    else (if bytes_eq word (codes "file") then Some subtype.File
    else (if bytes_eq word (codes "ro") then Some subtype.Ro
    else (if bytes_eq word (codes "fail") then Some subtype.Fail else None)))

-- what a fault line names
abbrev pub why_word : Why → List ℕ
why_word why.TooLong = codes "toolong"
why_word why.Byte = codes "byte"
why_word why.Verb = codes "verb"
why_word why.Fields = codes "fields"
why_word why.Name = codes "name"
why_word why.Config = codes "config"
why_word why.Number = codes "number"
why_word why.Flags = codes "flags"
why_word why.Init = codes "init"
why_word why.Cdb = codes "cdb"
why_word why.Runs = codes "runs"
why_word why.Order = codes "order"
why_word why.Direction = codes "direction"
why_word why.Dump = codes "dump"
why_word why.Many = codes "many"
why_word why.NotYet = codes "notyet"
