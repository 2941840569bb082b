-- What is proved of the definitions: the worked examples hold, the grammar's own words agree with the machine's tests, and right answers have the
-- right numbers.
pub mod Own
pub mod Words
pub mod FieldExamples
pub mod CounterExamples
pub mod ListExamples
pub mod Meanings
pub mod Allowed
pub mod BookExamples
pub mod Promised
