use Rattle.flight.proofs.Read.{all_alone, export_alone, next_held}
use Rattle.flight.proofs.Turning.{flight_numbers}
use Rattle.flight.proofs.laws.flight_laws.Goals as goal

pub returns-clause-numbers : goal.returns-clause-numbers
returns-clause-numbers c = flight_numbers

pub returns-clause-exports : goal.returns-clause-exports
returns-clause-exports c = export_alone

pub returns-clause-next : goal.returns-clause-next
returns-clause-next c frames persist depth F w lt persisted H bytes read = next_held frames persist depth F w lt persisted H bytes read

pub returns-clause-in_turn : goal.returns-clause-in_turn
returns-clause-in_turn c = all_alone
