-- A machine that works on a part of another's state; what holds of both programs' machine; where it stops nothing happens any more.
mod Part
mod Both
