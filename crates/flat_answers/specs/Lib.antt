pub mod AnswerExtra
