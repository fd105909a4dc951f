-- Where sending comes to its end, nothing more is found.
use Rattle.std.proofs.Common.{◌≡◌, ℕ, None, Result, Ok, Err, ap}
use Rattle.pd_host.specs.AckEffects.{OnTheWay, sender_of, pipe_of, filled_from}
use Rattle.pd_host.specs.Expiries.{advanced}
use Rattle.pd_host.specs.Sending.{places_left, ready, ordinary}
use Rattle.pd_host.specs.SendingLaws.{SendsAllThatMay}
use Rattle.pd_host.specs.declared.halts.Halt.{Halt}
use Rattle.pd_host.specs.declared.endpoint.SenderState.{SenderState}
use Rattle.pd_host.proofs.Advances.{expiry_finds, expiry_sends}
use Rattle.pd_host.proofs.Outcomes.{came, done}
use Rattle.pd_host.proofs.SentOn.{finds, sends, fill_finds, fill_sends}

-- what was on the way beside the state that came
counted : (r : Result OnTheWay Halt) (t : SenderState) → sender_of r ≡ Ok t → (n : ℕ) × (r ≡ Ok (t, n))
counted (Ok u) t h = let same : u.0 ≡ t = cc in (u.1, ap (λ (x : SenderState). Ok (x, u.1)) same)
counted (Err halt) t h = absurd cc

pub sends_all_that_may : SendsAllThatMay
sends_all_that_may = record {
  ordinary = λ now s t h.
      let u : SenderState = ready now s.endpoint.connection s in
      came (λ (x : SenderState). finds x ≡ None) (ordinary now s) t h (done finds (sends now) (places_left u) u);
  filling = λ now filling s t h.
      let n = counted (filled_from now filling (s, pipe_of s.endpoint.connection)) t h in (
        n.0,
        n.1,
        came (λ (x : OnTheWay). fill_finds filling x ≡ None) (filled_from now filling (s, pipe_of s.endpoint.connection)) (t, n.0) n.1
            (done (fill_finds filling) (fill_sends now filling) (places_left s) (s, pipe_of s.endpoint.connection)),
      );
  expiries = λ until s t h.
      came (λ (x : SenderState). expiry_finds until x ≡ None) (advanced until s) t h (done (expiry_finds until) expiry_sends (places_left s) s);
}
