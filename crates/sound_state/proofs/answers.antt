pub mod AnswerCourses
pub mod AnswerPoints
pub mod StepAnswers
