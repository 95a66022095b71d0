use Rattle.device_run.proofs.Keeping.{kept_so}
use Rattle.top.proofs.flights.flight_file.Goals as goal

pub returns : goal.returns
returns g c = record {
  file = kept_so _ _ _ _ c.in_ok-outcome.ensures (λ devices is. record { outcome = c.in_ok-outcome.outcome; flies = is; whole = c.reply_of.ensures.reply });
}
