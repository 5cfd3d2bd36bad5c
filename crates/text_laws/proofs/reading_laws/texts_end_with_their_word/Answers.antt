use Rattle.text_laws.proofs.Formats.EndWord.{front-is_text, text-is_front, wrong-in_front}
use Rattle.text_laws.proofs.reading_laws.texts_end_with_their_word.Goals as goal

pub returns : goal.returns
returns c = record {
  text_is_front = front-is_text;
  front_is_text = text-is_front;
  wrong_in_front = wrong-in_front;
}
