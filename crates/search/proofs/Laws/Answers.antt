-- What each answer of the search call tells, by the definition. Assumes nothing.
use Prim.Native.Nat.{ℕ}
use mathlib.Core.Path.{◌≡◌, refl}
use Rattle.std.specs.Prelude.{Ok, Err}
use Rattle.network.specs.declared.grounds.Refusal.{Refusal}
use Rattle.network.specs.Numbers.{number_of}
use Rattle.search.specs.declared.SearchAnswer.TheVariants as answer
use Rattle.search.specs.Search.{finished, stopped, stopped_with_none, refusal, search_answer}

module _ (least sum tries : ℕ) where
  pub search_answer_finished : search_answer (Ok (answer.Finished (record { least = least; sum = sum }) tries)) ≡ finished least sum tries
  unfolding search_answer
  search_answer_finished = refl

  pub search_answer_stopped : search_answer (Ok (answer.Stopped (record { least = least; sum = sum }) tries)) ≡ stopped least sum tries
  unfolding search_answer
  search_answer_stopped = refl

pub search_answer_none : (tries : ℕ) → search_answer (Ok (answer.StoppedWithNone tries)) ≡ stopped_with_none tries
unfolding search_answer
search_answer_none tries = refl

pub search_answer_refused : (r : Refusal) → search_answer (Err r) ≡ refusal (number_of r.reason) r.place
unfolding search_answer
search_answer_refused r = refl
