-- At most sixteen pages of a worker's line are in flight, since as many lie wholly in the range of a call.
use Rattle.std.proofs.Common.{◌≡◌, ◌⊎◌, inl, inr, ⊎_elim, ℕ, ◌+◌, ◌<◌, ◌≤◌, List, length, true, ap, arith}
use Rattle.std.specs.Int.{div_ceil}
use Rattle.std.specs.Prelude.{IsSome}
use Rattle.std.proofs.lemmas.Bool.{cases_lt}
use Rattle.std.proofs.lemmas.Grind.{div_ceil_times}
use Rattle.std.proofs.lemmas.Option.{slice_get-get_or}
use Rattle.std.proofs.Math.ListN.{get_or}
use Rattle.nl_tree.specs.Calls.{HasFewBytes}
use Rattle.nl_tree.specs.Event.{is_whole, page_given}
use Rattle.nl_tree.specs.declared.call.Call.{Call}
use Rattle.nl_tree.specs.declared.call.Call.TheVariants.{Mkdir, Rmdir, Create, Unlink, Rename, Write, Fill, Read, Truncate, Stat, List as ListCall, Sync, Clean}
use Rattle.nl_flight.specs.Flight.{of_worker}
use Rattle.nl_flight.specs.declared.page.FlightPage.{FlightPage}
use Rattle.nl_iface.specs.declared.counts.Counts.{Ghosts}
use Rattle.nl_core.specs.Core.{IsCore}
use Rattle.nl_core.specs.declared.state.Core.{Core}
use Rattle.nl_turns.specs.History.{Opening}
use Rattle.nl_volume_stage.specs.Standing.{FlightIsOfLines, IsInFlight, first_whole}
use Rattle.nl_volume_stage.proofs.Given.{fill_whole, whole_parts, write_whole}

past : (from len index place : ℕ) → len ≤ 65536 → index ≡ div_ceil from 4096 + place → is_whole from len index ≡ true → place < 16
past from len index place most is whole =
    let low = (div_ceil_times from 4096 (omega arith)).0 in
    let end = (whole_parts from len index whole).1 in
    omega (arith, low, end, is, most)

-- a page at a place of a call's range
pub place_below : (call : Call) (index place : ℕ) → HasFewBytes call → index ≡ first_whole call + place → IsSome (page_given call index) → place < 16
unfolding page_given
place_below (Mkdir path) index place few is some = absurd (cc some)
place_below (Rmdir path) index place few is some = absurd (cc some)
place_below (Create path) index place few is some = absurd (cc some)
place_below (Unlink path) index place few is some = absurd (cc some)
place_below (Rename from to) index place few is some = absurd (cc some)
place_below (Write path from bytes) index place few is some = past from (length bytes) index place few is (write_whole path from bytes index some)
place_below (Fill path from len byte) index place few is some = past from len index place few is (fill_whole path from len byte index some)
place_below (Read path from len) index place few is some = absurd (cc some)
place_below (Truncate path size) index place few is some = absurd (cc some)
place_below (Stat path) index place few is some = absurd (cc some)
place_below (ListCall path) index place few is some = absurd (cc some)
place_below Sync index place few is some = absurd (cc some)
place_below Clean index place few is some = absurd (cc some)

pub few_staged : {D : Type 0} (g : Ghosts D) (o : Opening) (v : Core D) → IsCore g v → FlightIsOfLines g o v.device v.flight → (worker : ℕ) → length (of_worker v.flight worker).pages ≤ 16
few_staged g o v core stands worker = ⊎_elim (λ past. by past (stands worker)) (λ low. low) (cases_lt 16 (length (of_worker v.flight worker).pages))
  where
    by : 16 < length (of_worker v.flight worker).pages → (((of_worker v.flight worker).line ≡ 0) × ((of_worker v.flight worker).fault ≡ 0)) ⊎ IsInFlight g o v.device worker (of_worker v.flight worker) → length (of_worker v.flight worker).pages ≤ 16
    by past (inl none) = let no = ap (λ (xs : List FlightPage). length xs) (core.flight.idle worker none.0).0 in omega (arith, past, no)
    by past (inr is) =
        let page : FlightPage = get_or (of_worker v.flight worker).pages 16 (record { index = 0; at = record { name = 0; stamp = 0 }; tag = record { ino = 0; generation = 0; index = 0 } }) in
        let at = is.staged 16 page (slice_get-get_or (of_worker v.flight worker).pages 16 _ past) in
        let low = place_below is.call page.index 16 is.known.bounded.bytes at.index at.whole in
        let off : ⊥ = omega (arith, low) in
        absurd off
