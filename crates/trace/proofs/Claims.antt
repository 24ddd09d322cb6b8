-- The theorems of specs/Claims.antt, each from the file that proves it.
pub use Rattle.trace.proofs.Demand1.{demand1}
pub use Rattle.trace.proofs.Demand2.{demand2}
pub use Rattle.trace.proofs.Demand3.{demand3, plain_reads, plain_never_meets}
pub use Rattle.trace.proofs.Strength.{demand3_shuts_out}
pub use Rattle.trace.proofs.Makings.{makes}
pub use Rattle.trace.proofs.LayoutExamples.{layout_example}
pub use Rattle.trace.proofs.Readings.{reads_alone, survey_gives}
pub use Rattle.trace.proofs.SurveyLaws.{survey_honest, survey_slots}
pub use Rattle.trace.proofs.PlainCalls.{plain_calls, last_put}
pub use Rattle.trace.proofs.LoadLaws.{load_draws, load_example}
pub use Rattle.trace.proofs.LoadClaims.{load_is_flips, load_in_use, load_meets_as_flip}
pub use Rattle.trace.proofs.PutListClaims.{puts_are_puts, put_list_meets}
