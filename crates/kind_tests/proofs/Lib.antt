mod KindSamples
