-- What a `Watch` watches, and what it noted of the calls through it.
use Rattle.std.specs.Prelude.{◌≡◌, ◌||◌, Bool, true, false}
use Rattle.names_core.specs.declared.watch.Watch.{Watch}

-- the reader or the writer within
abbrev pub watched : {T : Type 0} → Watch T → T
watched watch = watch.inner

-- whether a call through it failed
abbrev pub met_fault : {T : Type 0} → Watch T → Bool
met_fault watch = watch.met_fault

-- whether a call was made through it after one had failed
abbrev pub called_after_fault : {T : Type 0} → Watch T → Bool
called_after_fault watch = watch.called_after_fault

-- whether a call was made through it that may have followed a failed one of the watch beside it: the calls so far are settled
-- if that watch is seen to have none until then
abbrev pub is_unsettled : {T : Type 0} → Watch T → Bool
is_unsettled watch = watch.is_unsettled

-- one call was made through it, and failed or not
abbrev pub NotesCall : {T : Type 0} → Watch T → Watch T → Bool → Type 0
NotesCall old new fault =
    (met_fault new ≡ (fault || met_fault old))
    × (called_after_fault new ≡ (met_fault old || called_after_fault old))
    × (is_unsettled new ≡ true)

-- if none had failed before, no call was made through it after one failed
abbrev pub NoCallAfterFault : {T : Type 0} → Watch T → Watch T → Type 0
NoCallAfterFault old new = met_fault old ≡ false → called_after_fault new ≡ called_after_fault old
