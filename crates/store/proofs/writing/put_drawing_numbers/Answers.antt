use Rattle.store.proofs.writing.put_drawing_numbers.Goals as goal

pub returns-in-Point : goal.returns-in-Point
returns-in-Point c = rw (c.in-Point.is, c.put_ink.ensures)

pub returns-in-Rectangle : goal.returns-in-Rectangle
returns-in-Rectangle c = rw (c.in-Rectangle.is, c.put_ink-in-Rectangle.ensures)

pub returns-in-Bitmap : goal.returns-in-Bitmap
returns-in-Bitmap c = rw (c.in-Bitmap.is, c.put_ink-in-Bitmap.ensures, c.from.ensures)

pub returns-in-Segment : goal.returns-in-Segment
returns-in-Segment c = rw (c.in-Segment.is, c.put_ink-in-Segment.ensures)
