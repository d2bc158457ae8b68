-- WHAT AN ANSWER OF `translate` OR `words_needed` TELLS, in the documents' numbers.
use Rattle.std.specs.Prelude.{ℕ, Result, Ok, Err}
use Rattle.faults.specs.declared.Refusal.{Refusal}
use Rattle.faults.specs.Faults.{fault_number}
use Rattle.answers.specs.Translation.{Told, accepted, refused}
use Rattle.answers.specs.WordsNeeded.{Need, takes, refused_with}
use Rattle.translation.specs.declared.Translation.{Translation}
pub use Rattle.emission.specs.Sites.{listed}

abbrev pub told : Result Translation Refusal → Told
told (Ok t) = accepted t.words t.body (listed t.sites)
told (Err r) = refused (fault_number r.fault) r.place

abbrev pub need_told : Result ℕ Refusal → Need
need_told (Ok words) = takes words
need_told (Err r) = refused_with (fault_number r.fault) r.place
