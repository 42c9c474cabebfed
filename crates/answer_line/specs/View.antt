-- What the numbers of an answer line say in the terms of the model.
use Rattle.model.specs.Reference.{Answer}
use Rattle.answer_line.specs.declared.Fields.{Fields}

abbrev pub fields_of : Fields → Answer
fields_of f = record { code = f.code; slot = f.slot; link = f.link; level = f.level }
