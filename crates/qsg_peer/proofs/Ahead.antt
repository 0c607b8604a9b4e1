-- what a reader knows that also read the page in hand
use Rattle.std.proofs.Common.{◌≡◌, inl, inr, ◌≤◌, Bool, true, false, cond, List, [], ◌∷◌, ◌++◌, map, Some, refl, sym, ap, subst, ◌∙◌, true≢false}
use Rattle.std.specs.Prelude.{◌||◌}
use Rattle.std.proofs.lemmas.Bool.{cases_Bool}
use Rattle.std.proofs.lemmas.List.Folds.{list_any-append}
use Rattle.qsg_num.specs.declared.ids.UnitName.{UnitName}
use Rattle.qsg_num.specs.declared.seats.Member.{Member}
use Rattle.qsg_num.specs.Ids.{same_unit}
use Rattle.qsg_disk.specs.Byte.{Byte, synced}
use Rattle.qsg_logpage.specs.declared.step.Phase.TheVariants.{GateWritten}
use Rattle.qsg_logpage.specs.Reserved.{pages_for}
use Rattle.qsg_logpage.specs.Log.{Hand, LogState, advanced}
use Rattle.qsg_logread.specs.Fed.{Fed, is_committed}
use Rattle.qsg_group.specs.Group.{Log, Run}
use Rattle.qsg_group.specs.Observers.{has_run, runs_from}
use Rattle.qsg_group.proofs.Pages.{same_name}
use Rattle.qsg_unitlog.specs.Tells.{Tells, ends_run, runs_after, hand_after}
use Rattle.qsg_unitlog.proofs.Steps.{step_tells, reader_finds}
use Rattle.qsg_walk.specs.Following.{HasReadAll}
use Rattle.qsg_walk.proofs.Gates.{ahead_tied, ahead_pages}
use Rattle.qsg_peer.specs.declared.phases.FailedLife.{FailedLife}
use Rattle.qsg_peer.specs.Machine.{is_of, Knows}
use Rattle.qsg_peer.proofs.Settling.{same_life}

or_false : (b c : Bool) → c ≡ false → (b || (c || false)) ≡ b
or_false true c is = refl
or_false false c is = ap (λ (x : Bool). x || false) is

other_run : (u : UnitName) (runs : List Run) (run : Run) (ends : Bool) → same_unit u run.unit ≡ false → has_run u (cond ends (runs ++ run ∷ []) runs) ≡ has_run u runs
other_run u runs run true other = list_any-append (λ (x : Run). same_unit u x.unit) runs (run ∷ []) ∙ or_false (has_run u runs) (same_unit u run.unit) other
other_run u runs run false other = refl

apart : (life : FailedLife) (u v : UnitName) → is_of life u ≡ true → is_of life v ≡ false → same_unit u v ≡ false
apart life u v one other = elim (cases_Bool (same_unit u v)) [ inl same ↦ absurd (true≢false (sym one ∙ ap (is_of life) (same_name u v same) ∙ other)) | inr no_same ↦ no_same ]

pub ahead_knows : (life : FailedLife) (logs : Member → Log) (log : LogState) (hand : Hand) (gone : List UnitName) (run : Run) (bytes : List Byte) (reader : Fed) → log.hand ≡ Some hand → hand.phase ≡ GateWritten → 1 ≤ pages_for hand.unit log.reserved
    → HasReadAll (logs life.member).low (advanced log) (map synced bytes) reader → Tells (logs life.member).low log gone (runs_from (logs life.member).low (logs life.member).runs) (Some run) bytes → is_of life run.unit ≡ false → Knows life reader logs
ahead_knows life logs log hand gone run bytes reader hand_is phase hold read tells other = λ u is.
    let low = (logs life.member).low in
    let runs = runs_from (logs life.member).low (logs life.member).runs in
    let now = step_tells low log (advanced log) gone runs run bytes (map synced bytes) tells refl (ahead_tied low log hand bytes hand_is phase hold tells.tied) (ahead_pages low log hand bytes hand_is phase hold tells.tied) in
    subst (λ (m : Member). is_committed u reader.commits ≡ has_run u (runs_from (logs m).low (logs m).runs)) (sym (same_life life u is).0)
    (reader_finds low (advanced log) gone (runs_after log runs run) (hand_after log run) (map synced bytes) _ read.records reader u now refl read.fed
    ∙ other_run u runs run (ends_run log) (apart life u run.unit is other))
